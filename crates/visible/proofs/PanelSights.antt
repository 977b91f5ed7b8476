-- What a record comes to on the panel, out of what it comes to on the half of the chip that it names.
use Prim.Native.Nat.{ℕ}
use mathlib.Core.Path.{◌≡◌, refl, sym, ap, ap₂, ◌∙◌}
use mathlib.Core.Bool.{Bool, true, false, beq}
use mathlib.Core.List.{List, ◌++◌}
use mathlib.Core.Logic.{⊎_elim}
use lib.Dec.{eqb}
use lib.ListN.{length, take, drop}
use borrow.Author.Tests.{eq-eqb, ne_eqb}
use Rattle.basics.specs.Choice.{if}
use Rattle.basics.specs.Halves.{part_put}
use Rattle.basics.proofs.Tests.{tested}
use Rattle.sed1520.specs.Cycle.{Outcome}
use Rattle.panel.specs.Panel.{Panel, as_panel, chip_at, ram_at, outcome_of, stepped}
use Rattle.sed1520.specs.declared.bus.Record.{Record}
use Rattle.panel.proofs.PanelLaws.{every-record-apart}
use Rattle.visible.specs.Changes.{half_changed, pixels_changed}
use Rattle.visible.specs.Sight.{HalfSight, half_seen, half_sight_of, Sight, sight, sight_of}
use Rattle.sed1520.specs.declared.registers.Chip.{Chip}
use Rattle.visible.proofs.HalfSights.{alike, unlike, same-shown-registers}

-- an outcome of a cycle as a half's sight
abbrev as_seen : Chip → List ℕ → Outcome → HalfSight
as_seen c ram o = half_seen o.answer.number o.answer.chip (half_changed c ram o.answer.chip o.ram) o.ram

sights : {n : ℕ} {p q : Panel} {a b c d : ℕ} → p ≡ q → a ≡ b → c ≡ d → sight n p a c ≡ sight n q b d
sights e f g = rw (e, f, g)

module _ (p : Panel) (image : length p.ram ≡ 640) (r : Record) where
  abbrev k : ℕ
  k = r.chip

  abbrev next : Panel
  next = stepped p r

  abbrev own : ℕ
  own = half_changed (chip_at p k) (ram_at p k) (outcome_of p r).answer.chip (outcome_of p r).ram

  -- the half of the chip that the record names, and the other
  own-pixels : pixels_changed p next k ≡ own
  own-pixels =
      let apart = every-record-apart p image r in
      ap₂ (half_changed (chip_at p k) (ram_at p k)) apart.own-chip apart.own-ram

  pub other-pixels : (j : ℕ) → (eqb j 0 ≡ eqb k 0 → ⊥) → pixels_changed p next j ≡ 0
  other-pixels j other =
      let apart = every-record-apart p image r in
      ap₂ (half_changed (chip_at p j) (ram_at p j)) (apart.other-chip j other) (apart.other-ram j other)
      ∙ same-shown-registers (chip_at p j) (chip_at p j) (ram_at p j) refl

  pub half-pixels : (j : ℕ) → pixels_changed p next j ≡ if (beq (eqb j 0) (eqb k 0)) own 0
  half-pixels j =
      ⊎_elim
      (λ t. let same = alike (eqb j 0) (eqb k 0) t in rw t (rw same own-pixels))
      (λ t. rw t (other-pixels j (unlike (eqb j 0) (eqb k 0) t)))
      (tested (beq (eqb j 0) (eqb k 0)))

  -- a half's sight seen from the panel
  abbrev seen_from : HalfSight → Sight
  seen_from h =
      let left = eqb k 0 in
      sight h.answer.number
      (as_panel (if left h.answer.chip p.left) (if left p.right h.answer.chip) (part_put 320 k p.ram h.lent))
      (if left h.answer.pixels 0) (if left 0 h.answer.pixels)

  panel-sight : (h : HalfSight) → h ≡ half_sight_of r (chip_at p k) (ram_at p k) → seen_from h ≡ sight_of p r
  panel-sight h e =
      let apart = every-record-apart p image r in
      ap seen_from e
      ∙ ap (λ (o : Outcome). seen_from (as_seen (chip_at p k) (ram_at p k) o)) (sym apart.own-cycle)
      ∙ sights (sym apart.panel) (sym (half-pixels 0 ∙ by_left (eqb k 0))) (sym (half-pixels 1 ∙ by_right (eqb k 0)))
    where
      by_left : (t : Bool) → if (beq true t) own 0 ≡ if t own 0
      by_left true = refl
      by_left false = refl

      by_right : (t : Bool) → if (beq false t) own 0 ≡ if t 0 own
      by_right true = refl
      by_right false = refl

  -- a record to the left chip, and one to the right
  pub left-sight : k ≡ 0 → {n : ℕ} {c : Chip} {pixels : ℕ} {bytes : List ℕ} → half_seen n c pixels bytes ≡ half_sight_of r p.left (take 320 p.ram)
      → sight n (as_panel c p.right (bytes ++ drop 320 p.ram)) pixels 0 ≡ sight_of p r
  left-sight here {n} {c} {pixels} {bytes} e = let t = eq-eqb k 0 here in rw t at (panel-sight (half_seen n c pixels bytes) (rw t e))

  pub right-sight : (k ≡ 0 → ⊥) → {n : ℕ} {c : Chip} {pixels : ℕ} {bytes : List ℕ}
      → half_seen n c pixels bytes ≡ half_sight_of r p.right (drop 320 p.ram)
      → sight n (as_panel p.left c (take 320 p.ram ++ bytes)) 0 pixels ≡ sight_of p r
  right-sight there {n} {c} {pixels} {bytes} e = let t = ne_eqb k 0 there in rw t at (panel-sight (half_seen n c pixels bytes) (rw t e))
