use Rattle.std.proofs.Common.{◌≡◌, ◌++◌, ℕ, List, length, drop, sym}
use Rattle.std.proofs.Math.Seq.{drop-append_seam}
use Rattle.journal_stops.proofs.prefix.built.Goals as goal

drop_front : {A : Type 0} (n : ℕ) (xs ys : List A) → length xs ≡ n → drop n (xs ++ ys) ≡ ys
drop_front n xs ys is = rw (sym is) (drop-append_seam xs ys)

pub returns : goal.returns
returns g c =
    let built = rw c.expect-2.ensures at c.from_buffer.ensures.bytes in
    let items = rw c.expect.ensures at c.extend_from_slice.ensures.items in
    rw (built, items) (drop_front 4 _ _ c.into_buffer-buffer.ensures)
