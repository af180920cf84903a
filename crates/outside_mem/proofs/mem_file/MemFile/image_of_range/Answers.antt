use Rattle.std.proofs.Common.{rules, ◌<◌, ◌≡◌, ◌+◌, ◌-◌, List, ℕ, length, take, drop, length-drop, arith, ap, ◌∙◌, sym, subst}
use Rattle.std.proofs.lemmas.List.{take_all}
use Rattle.outside_api.specs.Disk.{FileState}
use Rattle.outside_mem.specs.Ranges.{IsNotKept}
use Rattle.outside_mem.specs.MemFile.{IsLeftSo}
use Rattle.outside_mem.proofs.FileLemmas.{left_at, written_back}
use Rattle.outside_mem.proofs.mem_file.MemFile.image_of_range.Goals as goal

pub returns : goal.returns
returns c =
    let ranges = c.self.inside.ranges.items in
    let new = c.leave_so.new.image in
    let image = c.in_ok-image.image in
    let less : c.args.index < length ranges = omega (arith, c.if-index-len.false, c.len.ensures, c.self.inside.ranges.ok.0) in
    let base : c.as_mut_slice.result.now ≡ c.self.inside.bytes.items = c.as_mut_slice.ensures.value ∙ c.in_ok-image.ensures.items ∙ c.as_slice.ensures.value in
    let back = written_back new image.items image.len image.ok.0 (c.leave_so.ensures.length ∙ ap length c.as_mut_slice.ensures.value) in
    let apart : IsNotKept c.index.result.now = search rules in
    let all = c.as_slice-2.result.now in
    let later : take (length all - (c.args.index + 1)) (drop (c.args.index + 1) all) ≡ drop (c.args.index + 1) ranges =
    take_all (length all - (c.args.index + 1)) (drop (c.args.index + 1) all) (omega (arith, length-drop (c.args.index + 1) all)) ∙ ap (drop (c.args.index + 1)) c.as_slice-2.ensures.value in
    record {
      left = subst (λ (l : List ℕ). IsLeftSo c.args.index c.args.left c.args.self.now l) (sym back)
          (subst (λ (f : FileState). IsLeftSo c.args.index c.args.left f new) c.self.view_is
          (left_at c.args.index c.args.left _ c.index.result.now _ c.as_slice-3.result.now new less c.index.ensures later c.as_slice-3.ensures.value apart
          (c.leave_so.ensures.length ∙ ap length base) c.leave_so.ensures.others c.leave_so.ensures.kept c.leave_so.ensures.so));
    }
