-- Drafts and queries with several columns and phrases more.
use Rattle.std.proofs.Common.{◌≡◌, ℕ, ℤ, Bool, true, false, List, [], ◌∷◌, ◌++◌, Option, refl, sym, ap, ◌∙◌, append_assoc}
use Rattle.qsql_request.specs.Forms.{Form, ColumnForm, QueryForm}
use Rattle.qsql_parse.specs.Machine.{DraftForm, grown, with_table, with_phrase, fresh}

abbrev pub grown_all : DraftForm → Bool → List ColumnForm → DraftForm
grown_all d g [] = d
grown_all d g (c ∷ cs) = grown_all (grown d g c.name c.expr) g cs

abbrev pub all_phrases : QueryForm → List Form → QueryForm
all_phrases q [] = q
all_phrases q (e ∷ es) = all_phrases (with_phrase q e) es

abbrev pub draft : Bool → Option ℤ → List ColumnForm → List ColumnForm → DraftForm
draft x f cs by = record { exec = x; first = f; columns = cs; by = by }

abbrev pub asked : Bool → Option ℤ → List ColumnForm → List ColumnForm → List ℕ → List Form → QueryForm
asked x f cs by t es = record { exec = x; first = f; columns = cs; by = by; table = t; phrases = es }

append-nil : {A : Type 0} (xs : List A) → xs ++ [] ≡ xs
append-nil [] = refl
append-nil (x ∷ xs) = ap (λ ys. x ∷ ys) (append-nil xs)

pub grown-columns : (x : Bool) (f : Option ℤ) (cs by new : List ColumnForm) → grown_all (draft x f cs by) false new ≡ draft x f (cs ++ new) by
grown-columns x f cs by [] = ap (λ all. draft x f all by) (sym (append-nil cs))
grown-columns x f cs by (c ∷ new) = grown-columns x f (cs ++ c ∷ []) by new ∙ ap (λ all. draft x f all by) (append_assoc cs (c ∷ []) new)

pub grown-by : (x : Bool) (f : Option ℤ) (cs by new : List ColumnForm) → grown_all (draft x f cs by) true new ≡ draft x f cs (by ++ new)
grown-by x f cs by [] = ap (λ all. draft x f cs all) (sym (append-nil by))
grown-by x f cs by (c ∷ new) = grown-by x f cs (by ++ c ∷ []) new ∙ ap (λ all. draft x f cs all) (append_assoc by (c ∷ []) new)

pub with-phrases : (x : Bool) (f : Option ℤ) (cs by : List ColumnForm) (t : List ℕ) (es new : List Form) → all_phrases (asked x f cs by t es) new ≡ asked x f cs by t (es ++ new)
with-phrases x f cs by t es [] = ap (λ all. asked x f cs by t all) (sym (append-nil es))
with-phrases x f cs by t es (e ∷ new) = with-phrases x f cs by t (es ++ e ∷ []) new ∙ ap (λ all. asked x f cs by t all) (append_assoc es (e ∷ []) new)

-- a whole query, part by part
pub whole-query : (x : Bool) (f : Option ℤ) (cs by : List ColumnForm) (t : List ℕ) (es : List Form)
    → all_phrases (with_table (grown_all (grown_all (fresh x f) false cs) true by) t) es ≡ asked x f cs by t es
whole-query x f cs by t es =
    ap (λ d. all_phrases (with_table (grown_all d true by) t) es) (grown-columns x f [] [] cs)
    ∙ (ap (λ d. all_phrases (with_table d t) es) (grown-by x f cs [] by)
    ∙ with-phrases x f cs by t [] es)
