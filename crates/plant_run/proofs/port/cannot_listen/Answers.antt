use Rattle.std.proofs.Common.{◌≡◌, refl, inl, inr, ap, ◌∙◌}
use Rattle.std.specs.Prelude.{codes}
use Rattle.program_outside.specs.Outside.{warned_of}
use Rattle.plant_run.specs.Ends.{cause_line}
use Rattle.plant_run.specs.Port.{port_name}
use Rattle.plant_run.proofs.port.cannot_listen.Goals as goal

pub returns-in-Ok : goal.returns-in-Ok
returns-in-Ok g c =
    let told = c.in-Ok.ensures in
    let line = c.deref.result.now in
    let line_is : line ≡ cause_line (port_name c.args.port) told.0 = cc (told.2, c.deref.ensures.value) in
    (refl, (line, inl (told.0, told.1, line_is), c.warn-in-Ok.ensures ∙ ap (λ s. warned_of s line) c.warn.ensures))

pub returns-in-Err : goal.returns-in-Err
returns-in-Err g c =
    let line = codes "plant: there is no memory to say why" in
    (refl, (line, inr refl, c.warn-in-Err.ensures ∙ ap (λ s. warned_of s line) c.warn.ensures))
