-- The words of one form, counted from the front.
use Rattle.std.proofs.Common.{◌≡◌, ℕ, zero, suc, ◌+◌, ◌-◌, ◌<◌, List, true, false, refl, ap, arith}
use Rattle.q_text.specs.Runs.{followers, goes_on_with, next_form, next_end}
use Rattle.q_text.specs.declared.forms.Form.{Form}
use Rattle.q_text.specs.declared.runs.Extent.{Extent}

-- n words more
abbrev pub counted : ℕ → Extent → Extent
counted n more = record { count = n + more.count; end = more.end }

extent-is : (a b : ℕ) (end : ℕ) → a ≡ b → (let x : Extent = record { count = a; end = end } in x) ≡ record { count = b; end = end }
extent-is a b end h = ap (λ n. record { count = n; end = end }) h

-- one word more
pub counted-more : (n left : ℕ) (form : Form) (text : List ℕ) (last : ℕ) → n < left → goes_on_with form (next_form text last) ≡ true
    → counted (n + 1) (followers (left - (n + 1)) form text (next_end text last)) ≡ counted n (followers (left - n) form text last)
unfolding followers
counted-more n left form text last less goes =
    let e : left - n ≡ suc (left - (n + 1)) = omega arith in
    rw (e, goes) (extent-is (n + 1 + (followers (left - (n + 1)) form text (next_end text last)).count) (n + ((followers (left - (n + 1)) form text (next_end text last)).count + 1)) (followers (left - (n + 1)) form text (next_end text last)).end (omega arith))

-- no word more
pub counted-none : (n left : ℕ) (form : Form) (text : List ℕ) (last : ℕ) → goes_on_with form (next_form text last) ≡ false
    → counted n (followers left form text last) ≡ record { count = n; end = last }
unfolding followers
counted-none n zero form text last goes = extent-is (n + 0) n last (omega arith)
counted-none n (suc left) form text last goes = rw goes (extent-is (n + 0) n last (omega arith))

pub counted-full : (n : ℕ) (form : Form) (text : List ℕ) (last : ℕ) → counted n (followers 0 form text last) ≡ record { count = n; end = last }
unfolding followers
counted-full n form text last = extent-is (n + 0) n last (omega arith)

pub followers-none : (left : ℕ) (form : Form) (text : List ℕ) (last : ℕ) → goes_on_with form (next_form text last) ≡ false
    → followers left form text last ≡ record { count = 0; end = last }
unfolding followers
followers-none zero form text last goes = refl
followers-none (suc left) form text last goes = rw goes refl

pub counted-end : (n left : ℕ) (form : Form) (text : List ℕ) (last : ℕ) → left ≡ 0 → counted n (followers left form text last) ≡ record { count = n; end = last }
counted-end n left form text last none = rw none (counted-full n form text last)
