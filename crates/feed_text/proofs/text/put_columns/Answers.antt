use Rattle.feed_text.proofs.text.put_columns.Goals as goal

pub returns-in-Some : goal.returns-in-Some
returns-in-Some c = rw c.in-Some.ensures.cases.0 c.put_some_kinds.ensures
