-- `sed1520::memory::image_index`: the index is below 640.
use Rattle.std.proofs.Common.{arith}
use Rattle.sed1520.specs.Memory.{ram_index}
use Rattle.sed1520.proofs.memory.image_index.Goals as goal

pub overflow_add-result : goal.overflow_add-result
unfolding ram_index
overflow_add-result c = omega (arith, c.index.ensures)
