-- What reading more bytes of a thread adds to the records that are held.
use Rattle.std.specs.Prelude.{◌≡◌, ℕ, List, ◌++◌, length, take, Option, Some, None}
use Rattle.std.specs.List.{flat_map}
use Rattle.adg_model.specs.declared.fault.FrameKind.{FrameKind}
use Rattle.adg_model.specs.Records.{Raw, raw_bytes, Mark, mark_after, AreRaws, SplitsFrom, FailsFrom}

-- a text from a mark on is these records and a rest, or these records and then one with this fault
abbrev pub Stands : Option FrameKind → Mark → List ℕ → List Raw → List ℕ → Type 0
Stands None mark text records rest = SplitsFrom mark text records rest
Stands (Some kind) mark text records rest = FailsFrom mark text records kind

-- the records held before and after, where these bytes are the records that came to them
pub record Reads (before after : List Raw) (from to : Mark) (bytes : List ℕ) : Type 0 where
  pub more : List Raw
  pub added : after ≡ before ++ more
  pub spelled : bytes ≡ flat_map raw_bytes more
  pub follow : AreRaws from more
  pub mark : to ≡ mark_after from more

-- the same, where a text was read as far as it goes
pub record Gains (before after : List Raw) (from to : Mark) (fault : Option FrameKind) (text rest : List ℕ) : Type 0 where
  pub more : List Raw
  pub added : after ≡ before ++ more
  pub mark : to ≡ mark_after from more
  pub stands : Stands fault from text more rest

-- a list that begins with another
abbrev pub IsPrefix : {T : Type 0} → List T → List T → Type 0
IsPrefix front all = take (length front) all ≡ front
