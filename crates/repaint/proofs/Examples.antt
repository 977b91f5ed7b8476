-- P1 to P12.
use Prim.Native.Nat.{ℕ}
use mathlib.Core.Path.{◌≡◌, ◌∙◌}
use mathlib.Core.List.{List, [], ◌∷◌, ◌++◌, flat_map, append_assoc}
use lib.ListN.{take, drop}
use lib.Seq.{drop_at}
use Rattle.sed1520.specs.declared.registers.Chip.{Chip}
use Rattle.basics.specs.Lists.{joined}
use Rattle.sed1520.specs.Records.{records_bytes}
use Rattle.sed1520.proofs.Records.{bytes-append, bytes-length}
use Rattle.frame.proofs.Examples.{frame-examples}
use Rattle.repaint.specs.Repaint.{page_records, hidden_pages, line_turns, repaint_records, repaint_of}
use Rattle.repaint.specs.Examples.{LeftReverse, Examples}
use Rattle.repaint.proofs.ReadyChips.{ready-outcome}
use Rattle.repaint.proofs.Counts.{pages-length}

module _ (left right : Chip) (picture buffer : List ℕ) (at : LeftReverse left right picture buffer) where
  written : (repaint_of left right picture buffer).lent ≡ records_bytes (repaint_records left right picture) ++ drop 1016 buffer
  written = rw (ready-outcome left right at.left-ready at.right-ready picture buffer at.sizes)

  begins : take 8 (repaint_of left right picture buffer).lent ≡ 0x02 ∷ 0x00 ∷ 0xBA ∷ 0x00 ∷ 0x02 ∷ 0x00 ∷ 0x13 ∷ 0x00 ∷ []
  unfolding flat_map joined repaint_records page_records
  begins = rw (written, at.left-line, at.reverse)

  -- the bytes after those of the pages
  turns : drop 1008 (records_bytes (repaint_records left right picture) ++ drop 1016 buffer)
      ≡ records_bytes (line_turns left right) ++ drop 1016 buffer
  unfolding repaint_records
  turns =
      let pages = hidden_pages left right picture in
      rw (bytes-append pages (line_turns left right), append_assoc)
      (drop_at (records_bytes pages) (records_bytes (line_turns left right) ++ drop 1016 buffer) 1008
      (bytes-length pages ∙ rw (pages-length left right picture)))

  ends : take 8 (drop 1008 (repaint_of left right picture buffer).lent) ≡ 0x02 ∷ 0x00 ∷ 0xD0 ∷ 0x00 ∷ 0x02 ∷ 0x01 ∷ 0xD0 ∷ 0x00 ∷ []
  unfolding flat_map
  ends = rw (written, turns, at.left-line, at.right-line)

pub examples : Examples
examples = record { frame = frame-examples; p12-first = begins; p12-last = ends }
