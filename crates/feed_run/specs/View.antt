-- What a clause sees of a source and of a sink.
use Rattle.std.specs.Prelude.{ℕ, List, Option}

-- a source: the bytes that are left, where it tells them, and its count of faults
pub record SourceView : Type 0 where
  pub left : Option (List ℕ)
  pub faults : ℕ

-- a sink: the bytes that it holds, where it tells them, and its count of faults
pub record SinkView : Type 0 where
  pub held : Option (List ℕ)
  pub faults : ℕ

abbrev pub source_view : Option (List ℕ) → ℕ → SourceView
source_view left faults = record { left = left; faults = faults }

abbrev pub sink_view : Option (List ℕ) → ℕ → SinkView
sink_view held faults = record { held = held; faults = faults }
