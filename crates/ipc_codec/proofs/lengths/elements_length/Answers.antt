use Rattle.std.proofs.Common.{subst, sym}
use Rattle.q_values.specs.Column.{contents}
use Rattle.ipc_codec.specs.Written.{VectorFits}
use Rattle.ipc_codec.proofs.FitLemmas.{fit-booleans, fit-bytes, fit-shorts, fit-integers, fit-longs, fit-symbols}
use Rattle.ipc_codec.proofs.lengths.elements_length.Goals as goal

pub returns-in-Booleans-clause-fit : goal.returns-in-Booleans-clause-fit
returns-in-Booleans-clause-fit c = subst (λ column. VectorFits (contents column)) (sym c.in-Booleans.is) (fit-booleans c.in-Booleans.items.items)

pub returns-in-Bytes-clause-fit : goal.returns-in-Bytes-clause-fit
returns-in-Bytes-clause-fit c = subst (λ column. VectorFits (contents column)) (sym c.in-Bytes.is) (fit-bytes _ c.in-Bytes.items.items)

pub returns-in-Shorts-clause-fit : goal.returns-in-Shorts-clause-fit
returns-in-Shorts-clause-fit c = subst (λ column. VectorFits (contents column)) (sym c.in-Shorts.is) (fit-shorts c.in-Shorts.items.items (rw c.deref.ensures.value at c.shorts_fit.ensures))

pub returns-in-Integers-clause-fit : goal.returns-in-Integers-clause-fit
returns-in-Integers-clause-fit c = subst (λ column. VectorFits (contents column)) (sym c.in-Integers.is) (fit-integers _ c.in-Integers.items.items (rw c.deref-in-Integers.ensures.value at c.integers_fit.ensures))

pub returns-in-Longs-clause-fit : goal.returns-in-Longs-clause-fit
returns-in-Longs-clause-fit c = subst (λ column. VectorFits (contents column)) (sym c.in-Longs.is) (fit-longs _ c.in-Longs.items.items (rw c.deref-in-Longs.ensures.value at c.longs_fit.ensures))

pub returns-in-Symbols-clause-fit : goal.returns-in-Symbols-clause-fit
returns-in-Symbols-clause-fit c = subst (λ column. VectorFits (contents column)) (sym c.in-Symbols.is) (fit-symbols c.in-Symbols.symbols c.symbols_length.ensures.fit)
