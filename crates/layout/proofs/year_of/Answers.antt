-- `layout::year_of`: its two tests are those of the definition. Assumes nothing.
use Rattle.std.proofs.Common.{◌≡◌, refl, ap, ◌∙◌, Bool, true, false, List, ℕ, ◌≤◌, length}
use borrow.Author.Tests.{le-leb, lt-leb}
use Rattle.text.specs.Bytes.{all_digits}
use Rattle.fields.specs.Columns.{year, heading_columns}
use Rattle.fields.specs.Field.{digits_of}
use Rattle.fields.specs.Told.{or_zero}
use Rattle.layout.specs.Rainfall.{year_of, year_told}
use Rattle.layout.proofs.year_of.Goals as goal

told_by : (line : List ℕ) (t : Bool) → all_digits (year line) ≡ t → heading_columns ≤ length line → (or_zero (digits_of (year line)) ≡ year_of line) × (digits_of (year line) ≡ year_told line)
unfolding year_of year_told digits_of
told_by line true e h = (rw (le-leb _ _ h, e), rw (le-leb _ _ h, e))
told_by line false e h = (rw (le-leb _ _ h, e), rw (le-leb _ _ h, e))

pub returns-then-line-lt-HEADING : goal.returns-then-line-lt-HEADING
unfolding year_of year_told
returns-then-line-lt-HEADING c = record { value = rw (lt-leb _ _ c.if-line-lt-HEADING.true); told = rw (lt-leb _ _ c.if-line-lt-HEADING.true) }

pub returns : goal.returns
returns c =
    let t = told_by c.args.line.now (all_digits (year c.args.line.now)) refl c.if-line-lt-HEADING.false in
    record { value = ap or_zero c.number_of.ensures ∙ t.0; told = c.number_of.ensures ∙ t.1 }
