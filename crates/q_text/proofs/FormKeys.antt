-- Words with different keys have different forms.
use Rattle.std.proofs.Common.{◌≡◌, ℕ, true, false, List, eqb, Option, Some, None, refl, sym, ◌∙◌, inl, inr, subst, ◌⊎◌}
use Rattle.std.proofs.lemmas.Bool.{eqb-false}
use Rattle.q_text.specs.Forms.{either}
use Rattle.q_text.specs.declared.forms.Form.{Form}
use Rattle.q_text.proofs.Keys.{key, number_key}

pub either-cases : (a b : Option Form) (form : Form) → either a b ≡ Some form → (a ≡ Some form) ⊎ ((a ≡ None) × (b ≡ Some form))
either-cases None b form h = inr (refl, h)
either-cases (Some other) b form h = inl h

pub apart : (w : List ℕ) (a b : ℕ) → key w ≡ a → eqb a b ≡ false → key w ≡ b → ⊥
apart w a b is differ other = eqb-false a b differ (sym is ∙ other)

pub number-apart : (w : List ℕ) (b : ℕ) → number_key (key w) ≡ true → number_key b ≡ false → key w ≡ b → ⊥
number-apart w b known no_key is = let P : ℕ → Type 0 = λ n. number_key n ≡ true in let yes : number_key b ≡ true = subst P is known in absurd (cc)
