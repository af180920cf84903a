-- What is left of a number in fewer bits.
use Rattle.std.proofs.Common.{◌≡◌, ℕ, ℤ, pos, negsuc, ◌-◌, ◌%◌, ◌<◌, refl, sym, ap, ◌∙◌, arith, FitsSigned, to_z, of_z, suc}
use Rattle.std.specs.Int.{w16, w32, w64, int_wrap, int_rem_euclid}
use Rattle.std.specs.Int.RustNames.{unsigned_abs}
use Rattle.std.proofs.lemmas.Int.{ints, of_z-to_z, SFits-int_wrap}

low-32_of_bits : (n : ℕ) → n < 18446744073709551616 → (18446744073709551616 - suc n) % 4294967296 ≡ 4294967296 - 1 - n % 4294967296
low-32_of_bits n h = omega arith

low-16_of_bits : (n : ℕ) → n < 18446744073709551616 → (18446744073709551616 - suc n) % 65536 ≡ 65536 - 1 - n % 65536
low-16_of_bits n h = omega arith

-- the low bits of a number of 64 bits
pub low-32 : (z : ℤ) → FitsSigned w64 z → to_z w32 (of_z w64 z % 4294967296) ≡ int_wrap w32 z
unfolding int_wrap
low-32 (pos n) fits = refl
low-32 (negsuc n) fits = ap (to_z w32) (low-32_of_bits n (omega (arith, ints)))

pub low-16 : (z : ℤ) → FitsSigned w64 z → to_z w16 (of_z w64 z % 65536) ≡ int_wrap w16 z
unfolding int_wrap
low-16 (pos n) fits = refl
low-16 (negsuc n) fits = ap (to_z w16) (low-16_of_bits n (omega (arith, ints)))

-- the bits that are left of a number
bits-int_wrap : (z : ℤ) → of_z w64 (int_wrap w64 z) ≡ unsigned_abs (int_rem_euclid z (pos 18446744073709551616))
unfolding int_wrap
bits-int_wrap (pos n) = of_z-to_z w64 (n % 18446744073709551616) (omega arith)
bits-int_wrap (negsuc n) = of_z-to_z w64 (18446744073709551616 - 1 - n % 18446744073709551616) (omega arith)

twice-32 : (z : ℤ) → unsigned_abs (int_rem_euclid z (pos 18446744073709551616)) % 4294967296 ≡ unsigned_abs (int_rem_euclid z (pos 4294967296))
twice-32 (pos n) = omega arith
twice-32 (negsuc n) = omega arith

twice-16 : (z : ℤ) → unsigned_abs (int_rem_euclid z (pos 18446744073709551616)) % 65536 ≡ unsigned_abs (int_rem_euclid z (pos 65536))
twice-16 (pos n) = omega arith
twice-16 (negsuc n) = omega arith

-- to wrap at 64 bits on the way changes nothing
pub int_wrap-32 : (z : ℤ) → int_wrap w32 (int_wrap w64 z) ≡ int_wrap w32 z
unfolding int_wrap
int_wrap-32 z = sym (low-32 (int_wrap w64 z) (SFits-int_wrap w64 z)) ∙ ap (λ n. to_z w32 (n % 4294967296)) (bits-int_wrap z) ∙ ap (to_z w32) (twice-32 z)

pub int_wrap-16 : (z : ℤ) → int_wrap w16 (int_wrap w64 z) ≡ int_wrap w16 z
unfolding int_wrap
int_wrap-16 z = sym (low-16 (int_wrap w64 z) (SFits-int_wrap w64 z)) ∙ ap (λ n. to_z w16 (n % 65536)) (bits-int_wrap z) ∙ ap (to_z w16) (twice-16 z)
