-- Fronts of patterns.
use Rattle.std.proofs.Common.{◌≡◌, ℕ, ◌<◌, ◌≤◌, Bool, false, List, length, drop, codes, get_or, refl, sym, ◌∙◌}
use Rattle.std.proofs.Math.ListN.{drop_of_length-le}
use Rattle.std.proofs.Math.Seq.{drop-cons}
use Rattle.q_text.specs.Forms.{fits, is_front, is_timestamp}

-- a word longer than the pattern
pub is_front-short : (pattern word : List ℕ) (done offset : ℕ) → length pattern ≤ done → offset < length word → is_front (drop done pattern) (drop offset word) ≡ false
is_front-short pattern word done offset short less = rw (drop_of_length-le pattern short, drop-cons word offset 0 less) refl

-- a byte for which the pattern's does not stand
pub is_front-differs : (pattern word : List ℕ) (done offset : ℕ) → done < length pattern → offset < length word → fits (get_or pattern done 0) (get_or word offset 0) ≡ false → is_front (drop done pattern) (drop offset word) ≡ false
is_front-differs pattern word done offset long less differs = rw (drop-cons pattern done 0 long, drop-cons word offset 0 less, differs) refl

pub timestamp-none : (w : List ℕ) (t : Bool) → t ≡ is_front (codes "dddd.dd.ddDdd:dd:dd.ddddddddd") w → t ≡ false → t ≡ is_timestamp w
unfolding is_timestamp
timestamp-none w t e fails =
    let h : is_front (codes "dddd.dd.ddDdd:dd:dd.ddddddddd") w ≡ false = sym e ∙ fails in
    rw (fails, h) refl
