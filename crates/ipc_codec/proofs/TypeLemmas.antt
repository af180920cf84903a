-- What a type byte is, by the form that it was read as.
use Rattle.std.proofs.Common.{nat_eq, ◌≡◌, ℕ, ◌-◌, ◌≤◌, Bool, true, false, cond, List, [], ◌∷◌, Option, Some, None, refl, arith, inl, inr}
use Rattle.std.specs.Prelude.{◌⊎◌, ◌&&◌, ◌||◌, nat_le}
use Rattle.std.proofs.lemmas.Bool.{eqb-true}
use Rattle.q_values.specs.declared.kind.Kind.{Kind}
use Rattle.q_values.specs.declared.kind.Kind.TheVariants as k
use Rattle.ipc_codec.specs.declared.form.Form.{Form}
use Rattle.ipc_codec.specs.declared.form.Form.TheVariants as f
use Rattle.q_values.specs.Kind.{kinds, kind_among, kind_at, type_number}
use Rattle.ipc_codec.specs.Types.{is_unbuilt, other_form, form_by, form_of}
use Rattle.ipc_codec.specs.Spells.{IsDictionaryType}
use Rattle.ipc_codec.proofs.StepLemmas.{cond-elim}

abbrev pub KindCase : ℕ → Option Kind → Type 0
KindCase b None = Unit {0}
KindCase b (Some kind) = b ≡ type_number kind

pub kind_is : (b : ℕ) → KindCase b (kind_at b)
kind_is b = among kinds
  where
    among : (some : List Kind) → KindCase b (kind_among some b)
    among [] = tt
    among (kind ∷ others) = cond-elim (KindCase b) (nat_eq b (type_number kind)) _ _ (λ e. eqb-true b (type_number kind) e) (λ _. among others)

-- what a type byte is, by its form
abbrev pub FormCase : ℕ → Form → Type 0
FormCase b (f.Atom kind) = b ≡ 256 - type_number kind
FormCase b (f.Vector kind) = b ≡ type_number kind
FormCase b f.List = b ≡ 0
FormCase b f.Dictionary = IsDictionaryType b
FormCase b f.Table = b ≡ 98
FormCase b f.Identity = b ≡ 101
FormCase b f.Wrong = b ≡ 128
FormCase b f.Unbuilt = Unit {0}
FormCase b f.Unknown = Unit {0}

pub either_is : (b p q : ℕ) → (nat_eq b p || nat_eq b q) ≡ true → (b ≡ p) ⊎ (b ≡ q)
either_is b p q e = by_cases (nat_eq b p) (nat_eq b q) (eqb-true b p) (eqb-true b q) e
  where
    by_cases : (x y : Bool) → (x ≡ true → b ≡ p) → (y ≡ true → b ≡ q) → (x || y) ≡ true → (b ≡ p) ⊎ (b ≡ q)
    by_cases true y g h d = inl (g refl)
    by_cases false true g h d = inr (h refl)
    by_cases false false g h d = absurd cc

outside : (b : ℕ) (t : Bool) → FormCase b (cond t f.Unbuilt f.Unknown)
outside b true = tt
outside b false = tt

other_is : (b : ℕ) → FormCase b (other_form b)
unfolding other_form
other_is b =
    cond-elim (FormCase b) (nat_eq b 0) _ _ (λ e. eqb-true b 0 e) (λ _.
    cond-elim (FormCase b) (nat_eq b 98) _ _ (λ e. eqb-true b 98 e) (λ _.
    cond-elim (FormCase b) (nat_eq b 99 || nat_eq b 127) _ _ (λ e. either_is b 99 127 e) (λ _.
    cond-elim (FormCase b) (nat_eq b 101) _ _ (λ e. eqb-true b 101 e) (λ _.
    cond-elim (FormCase b) (nat_eq b 128) _ _ (λ e. eqb-true b 128 e) (λ _.
    outside b (is_unbuilt b || (is_unbuilt (256 - b) || (nat_le 100 b && nat_le b 112))))))))

number-positive : (kind : Kind) → 1 ≤ type_number kind
number-positive k.Boolean = omega arith
number-positive k.Byte = omega arith
number-positive k.Short = omega arith
number-positive k.Integer = omega arith
number-positive k.Long = omega arith
number-positive k.Character = omega arith
number-positive k.Symbol = omega arith
number-positive k.Timestamp = omega arith
number-positive k.Month = omega arith
number-positive k.Date = omega arith
number-positive k.Timespan = omega arith
number-positive k.Minute = omega arith
number-positive k.Second = omega arith
number-positive k.Time = omega arith

pub form_is : (b : ℕ) → FormCase b (form_of b)
unfolding form_of
form_is b = by_kinds (kind_at b) (kind_at (256 - b)) (kind_is b) (kind_is (256 - b))
  where
    by_kinds : (p q : Option Kind) → KindCase b p → KindCase (256 - b) q → FormCase b (form_by p q b)
    by_kinds (Some kind) q g h = g
    by_kinds None (Some kind) g h = omega (arith, h, number-positive kind)
    by_kinds None None g h = other_is b
