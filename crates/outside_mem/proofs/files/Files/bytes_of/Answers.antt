use Rattle.std.proofs.Common.{ap, ◌∙◌, ◌<◌, List, length, subst}
use Rattle.outside_api.specs.Disk.{FileState}
use Rattle.outside_mem.specs.MemFile.{IsFirst}
use Rattle.outside_mem.specs.declared.files.Numbered.{Numbered}
use Rattle.outside_mem.proofs.FileLemmas.{file_at, absent_bytes}
use Rattle.outside_mem.proofs.files.Files.bytes_of.Goals as goal

pub returns-in-Some-clause-bytes : goal.returns-in-Some-clause-bytes
returns-in-Some-clause-bytes c =
    let es = c.self.inside.entries.items in
    let less = subst (λ (l : List Numbered). c.in-Some.i < length l) c.as_slice.ensures.value c.in-Some.ensures.within in
    let first = subst (λ (l : List Numbered). IsFirst l c.args.number c.in-Some.i) c.as_slice.ensures.value c.in-Some.ensures.found in
    c.bytes.ensures.bytes ∙ ap (λ (f : FileState). f.bytes) (file_at es c.args.self.now c.args.number c.in-Some.i c.index.result.now c.self.view_is less first c.index.ensures)

pub returns-in-None-clause-bytes : goal.returns-in-None-clause-bytes
returns-in-None-clause-bytes c = absent_bytes _ _ c.args.number (c.as_slice.ensures.value ∙ c.self.view_is) c.in-None.ensures.none
