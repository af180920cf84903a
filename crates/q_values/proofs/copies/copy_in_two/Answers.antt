use Rattle.std.proofs.Common.{arith, ◌∙◌, ◌≤◌, ◌-◌, length}
use Rattle.std.proofs.lemmas.List.{take_rest}
use Rattle.q_values.proofs.ListLemmas.{written_after}
use Rattle.q_values.proofs.copies.copy_in_two.Goals as goal

pub returns : goal.returns
returns g c =
    let within : length c.args.text.now - g.row.N ≤ g.row.N = omega (arith, c.requires.most) in
    written_after c.args.text.now c.args.room.now c.copy_from_slice.new.self c.copy_from_slice-2.new.self g.row.N (length c.args.text.now - g.row.N) _ c.requires.least (omega arith) within c.copy_from_slice.ensures.after (c.copy_from_slice-2.ensures.after ∙ take_rest c.args.text.now (length c.args.text.now - g.row.N))
