use Rattle.mem_outside.proofs.outside.MemOutside.into_left.Goals as goal

pub returns : goal.returns
returns c =
    let kept = c.self.invariant in
    rw (← c.self.view_is) (record { output = kept.1; errors = kept.2; handed = kept.3; disk = kept.4 })
