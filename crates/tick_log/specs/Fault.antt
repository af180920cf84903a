-- Why a vector of a chunk is not read.
use Rattle.ipc_codec.specs.declared.vectors.VectorFault.{VectorFault}
use Rattle.ipc_codec.specs.declared.vectors.VectorFault.TheVariants as v
use Rattle.tick_log.specs.declared.refusal.ChunkFault.{ChunkFault}
use Rattle.tick_log.specs.declared.refusal.ChunkFault.TheVariants as c

-- what a vector's fault is for the chunk
abbrev pub fault_of : VectorFault → ChunkFault
fault_of v.NotCanonical = c.NoChunk
fault_of v.NoMemory = c.NoMemory
