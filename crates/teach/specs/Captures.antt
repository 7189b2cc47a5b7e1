-- Captured values, by their lowest, their highest and their number.
use Rattle.std.specs.Prelude.{◌+◌, Some, None, Option}
use Rattle.kinds.specs.Meaning.{Meaning, lesser, greater}
use Rattle.teach.specs.declared.capture.Captured.{Captured}
use Rattle.teach.specs.declared.capture.Span.{Span}

module _ {V : Type 0} where
  abbrev pub span_of : V → Span V
  span_of v = record { lowest = v; highest = v }

  -- a value may become the lowest, and it may become the highest
  abbrev pub widened : Meaning V → Span V → V → Span V
  widened m s v = record { lowest = lesser m v s.lowest; highest = greater m v s.highest }

  -- one value more
  abbrev pub with_value : Meaning V → Option (Captured V) → V → Captured V
  with_value m None v = record { span = span_of v; count = 1 }
  with_value m (Some c) v = record { span = widened m c.span v; count = c.count + 1 }
