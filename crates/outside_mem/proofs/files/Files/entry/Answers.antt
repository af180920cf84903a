use Rattle.std.proofs.Common.{◌++◌, ◌∷◌, [], length, subst, ap, ◌∙◌, List}
use Rattle.outside_mem.specs.MemFile.{file_in, IsAbsent}
use Rattle.outside_mem.proofs.PlaceLemmas.{finds_pushed}
use Rattle.outside_mem.specs.declared.files.Numbered.{Numbered}
use Rattle.outside_mem.proofs.FileLemmas.{file_in-push}
use Rattle.outside_mem.proofs.files.Files.entry.Goals as goal

pub returns-clause-same : goal.returns-clause-same
returns-clause-same c k =
    ap (λ (l : List Numbered). file_in l k) (c.push_reserved.ensures.items ∙ ap (λ (l : List Numbered). l ++ record { number = c.args.number; file = c.new-file.result } ∷ []) c.in_ok-reserve.ensures.items)
    ∙ file_in-push c.self.inside.entries.items (record { number = c.args.number; file = c.new-file.result }) c.new-file.ensures k
    ∙ ap (λ (l : List Numbered). file_in l k) c.self.view_is

pub invariant_of-self-2 : goal.invariant_of-self-2
invariant_of-self-2 c =
    let es = c.self.inside.entries.items in
    let grown = c.push_reserved.ensures.items ∙ ap (λ (l : List Numbered). l ++ record { number = c.args.number; file = c.new-file.result } ∷ []) c.in_ok-reserve.ensures.items in
    let absent = subst (λ (l : List Numbered). IsAbsent l c.args.number) c.as_slice.ensures.value c.in_default.ensures.none in
    finds_pushed c.self.inside.places c.insert.new.self es c.push_reserved.new.self.items (record { number = c.args.number; file = c.new-file.result }) _ grown (ap length c.as_slice-i.ensures.value) c.self.invariant absent c.in_ok-insert.ensures.updates.1 c.in_ok-insert.ensures.updates.2
