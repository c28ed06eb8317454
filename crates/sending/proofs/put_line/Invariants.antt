use Rattle.std.proofs.Common.{◌≡◌, ◌++◌, ◌+◌, ◌*◌, length, take, drop}
use Rattle.fields.specs.Columns.{heading_columns, width}
use Rattle.layout_heading.specs.Written.{heading_text}
use Rattle.refusals.specs.Lists.{read}
use Rattle.figures.specs.Figures.{figures_text}
use Rattle.sent_months.specs.Sent.{year_sent}
use Rattle.sending.proofs.put_line.Given as goal

abbrev pub invariant-loop-m : goal.invariant-loop-m
invariant-loop-m l =
    let fs = year_sent l.sent.element (read l.sent.rows) l.sent.calendar l.sent.months l.sent.which in
    let text = heading_text l.fn.heading.state l.fn.heading.division l.fn.heading.element l.fn.heading.year ++ figures_text (take l.m fs) in
    record {
      same_room : length l.line ≡ length l.initial.line;
      text_long : length text ≡ heading_columns + width * l.m;
      text_laid : l.line ≡ text ++ drop (heading_columns + width * l.m) l.initial.line;
    }
