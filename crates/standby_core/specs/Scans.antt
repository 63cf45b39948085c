-- What a scan says at its end.
use Rattle.std.specs.Prelude.{◌≡◌, ◌≤◌}
use Rattle.adg_base.specs.declared.answer.Reply.{Reply}
use Rattle.adg_base.specs.declared.answer.Reply.TheVariants as reply
use Rattle.adg_model.specs.Query.{select_lines}
use Rattle.standby_core.specs.declared.session.Scan.{Scan}
use Rattle.standby_core.specs.declared.session.Session.{Session}
use Rattle.standby_core.specs.declared.session.Session.TheVariants.{Scanning}

-- its answer: what its query makes of the rows that its accumulator stands for
abbrev pub reply_of : Scan → Reply
reply_of x = reply.Rows x.scn (select_lines x.accumulator.select x.accumulator.rows) x.col x.row

-- a session has a scan whose extents are all gathered, and this is its answer
pub record EndsWith (session : Session) (said : Reply) : Type 0 where
  pub scan : Scan
  pub is : session ≡ Scanning scan
  pub whole : scan.definition.extents ≤ scan.extents
  pub says : said ≡ reply_of scan
