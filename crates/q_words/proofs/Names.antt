-- The reserved names are the texts of the words and the names of the virtual columns.
use Rattle.std.proofs.Common.{◌≡◌, ℕ, ◌||◌, true, false, if◌then◌else◌, List, [], ◌∷◌, ◌++◌, map, Some, is_some, refl, sym, ◌∙◌, ap}
use Rattle.std.specs.List.{list_any}
use Rattle.std.specs.Str.{bytes_eq}
use Rattle.std.proofs.lemmas.Cmp.{nat_list_eq_equiv}
use Rattle.std.proofs.lemmas.List.Folds.{list_any-append}
use Rattle.std.proofs.lemmas.Map.Views.{Contains-from_any, list_any-from_Contains}
use Rattle.std.proofs.lemmas.Slice.Eq.{bytes_eq-Decides}
use Rattle.q_words.specs.Words.{words, virtual_names, beside_in, reserved_word, is_reserved, NamesAreWords}
use Rattle.q_words.specs.declared.word.ReservedWord.{ReservedWord}

is_some-beside_in : (entries : List (List ℕ × ReservedWord)) (text : List ℕ) → is_some (beside_in entries text) ≡ list_any (bytes_eq text) (map (λ (entry : List ℕ × ReservedWord). entry.0) entries)
is_some-beside_in [] text = refl
is_some-beside_in (entry ∷ entries) text =
    elim (bytes_eq text entry.0) as (λ v. is_some (if v then Some entry.1 else beside_in entries text) ≡ (v || list_any (bytes_eq text) (map (λ (e : List ℕ × ReservedWord). e.0) entries)))
    [ true ↦ refl | false ↦ is_some-beside_in entries text ]

is_reserved-list_any : (name : List ℕ) → is_reserved name ≡ list_any (bytes_eq name) (map (λ (entry : List ℕ × ReservedWord). entry.0) words ++ virtual_names)
unfolding reserved_word
is_reserved-list_any name =
    ap (λ v. v || list_any (bytes_eq name) virtual_names) (is_some-beside_in words name)
    ∙ sym (list_any-append (bytes_eq name) (map (λ (entry : List ℕ × ReservedWord). entry.0) words) virtual_names)

pub names_are_words : (name : List ℕ) → NamesAreWords name
names_are_words name = (
  λ found. Contains-from_any (λ x y. (bytes_eq-Decides x y).0) name (map (λ (entry : List ℕ × ReservedWord). entry.0) words ++ virtual_names) (sym (is_reserved-list_any name) ∙ found),
  λ among. is_reserved-list_any name ∙ list_any-from_Contains nat_list_eq_equiv name (map (λ (entry : List ℕ × ReservedWord). entry.0) words ++ virtual_names) among,
)
