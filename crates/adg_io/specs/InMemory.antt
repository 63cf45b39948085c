-- What contracts see of the source and the sink in memory.
use Rattle.std.specs.Prelude.{◌≡◌, ℕ, ◌+◌, ◌-◌, ◌<◌, ◌⊎◌, min, List, length, Contains}

-- a source: the bytes that are left, the most that one call gives, the numbers of the calls that
-- fail, how many calls there were, and how many of them failed
pub record SourceState : Type 0 where
  pub left : List ℕ
  pub most : ℕ
  pub failing : List ℕ
  pub calls : ℕ
  pub faults : ℕ

-- a sink: the bytes that it holds, for how many it has room, the most that one call takes, the
-- numbers of the calls that fail, how many calls there were, and how many of them failed
pub record SinkState : Type 0 where
  pub held : List ℕ
  pub room : ℕ
  pub most : ℕ
  pub failing : List ℕ
  pub calls : ℕ
  pub faults : ℕ

-- the call after so many has one of the numbers that fail; the first call has number 1
abbrev pub IsToFail : List ℕ → ℕ → Type 0
IsToFail failing calls = Contains failing (calls + 1)

-- how many bytes a read that does not fail gives to a piece of this length
abbrev pub given_to : SourceState → ℕ → ℕ
given_to source room = min room (min source.most (length source.left))

-- for how many bytes more a sink has room
abbrev pub room_left : SinkState → ℕ
room_left sink = sink.room - length sink.held

-- how many bytes a write that does not fail takes of a piece of this length
abbrev pub taken_of : SinkState → ℕ → ℕ
taken_of sink offered = min offered (min sink.most (room_left sink))

-- a write of a piece of this length fails: its number is to fail, or there is a byte and no room
abbrev pub IsToRefuse : SinkState → ℕ → Type 0
IsToRefuse sink offered = IsToFail sink.failing sink.calls ⊎ ((0 < offered) × (room_left sink ≡ 0))
