-- A proof's vocabulary, here since contracts cite it; no promise leans on it. What is read of a heading, and refused by it. Assumes nothing.
use Rattle.std.specs.Prelude.{ℕ, cond, ◌&&◌, List, Result, Ok, Err, eqb}
use Rattle.text.specs.Bytes.{natural}
use Rattle.fields.specs.Columns.{state, division, element, year}
use Rattle.fields.specs.Refusals.{another, not_the_year}
use Rattle.layout_heading.specs.Heading.{precipitation, headed, heading_fault}
use Rattle.layout_heading.specs.declared.Heading.{Heading}

-- the first ten columns
unfoldable pub heading_of : List ℕ → Result Heading ℕ
heading_of line =
    cond (headed line) (Ok (record { state = natural (state line); division = natural (division line); element = natural (element line); year = natural (year line) })) (Err (heading_fault line))

-- 15 or 16, of what the heading says and what is asked for
unfoldable pub heading_refusal : ℕ → ℕ → ℕ → ℕ → ℕ → ℕ → ℕ → ℕ
heading_refusal s d e y s' d' y' = cond (eqb s s' && eqb d d' && eqb e precipitation) (cond (eqb y y') 0 not_the_year) another

-- the same of any element, e' the one that is asked for
unfoldable pub element_refusal : ℕ → ℕ → ℕ → ℕ → ℕ → ℕ → ℕ → ℕ → ℕ
element_refusal s d e y s' d' e' y' = cond (eqb s s' && eqb d d' && eqb e e') (cond (eqb y y') 0 not_the_year) another
