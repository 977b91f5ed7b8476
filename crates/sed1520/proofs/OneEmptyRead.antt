-- A data read below column 80 loads the read latch, and the data read right after it answers what it loaded.
use Prim.Native.Nat.{ℕ, ◌<◌}
use mathlib.Core.Path.{◌≡◌, refl}
use mathlib.Core.List.{List}
use borrow.Author.Tests.{lt-ltb}
use Rattle.sed1520.specs.Cycle.{after_read, data_read}
use Rattle.sed1520.specs.Laws.{sent, Fit}
use Rattle.sed1520.specs.LatchPromises.{OneEmptyRead}
use Rattle.sed1520.specs.Memory.{byte_at}
use Rattle.sed1520.specs.declared.registers.Chip.{Chip}
use Rattle.sed1520.specs.declared.registers.ReadLatch.TheVariants.{Fresh}
use Rattle.sed1520.proofs.CycleKeeps.{cycle-keeps}
use Rattle.sed1520.proofs.SentRecords.{read-cycle}

loaded : (c : Chip) (ram : List ℕ) → c.column < 80 → (after_read c ram).latch ≡ Fresh (byte_at ram c.page c.column)
unfolding after_read
loaded c ram below = rw (lt-ltb c.column 80 below)

pub one-empty-read : OneEmptyRead
unfolding data_read
one-empty-read c ram fit below k addressed a b =
    let first = read-cycle c ram fit k addressed a in
    let keeps = cycle-keeps c ram (sent 5 k a) in
    let fits : Fit (after_read c ram) ram = record { range = rw first at (keeps.range fit.range); bytes = fit.bytes } in
    let second = read-cycle (after_read c ram) ram fits k addressed b in
    rw (first, second, loaded c ram below) (refl, (refl, refl))
