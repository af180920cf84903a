use Rattle.ipc_frame.proofs.framer.Framer.standing.Goals as goal

pub returns-then-self-clause-stands : goal.returns-then-self-clause-stands
returns-then-self-clause-stands c = rw (← c.self.view_is, c.if-self.true) (rw c.as_slice-held.ensures.value at c.message_in.ensures.stands)
