use Rattle.std.proofs.Common.{rules, ◌≡◌, ◌++◌, ◌∙◌, sym}
use Rattle.std.specs.Prelude.{codes, decimal, string_bytes}
use Rattle.feed_gen.proofs.Texts.{counts_and_sums_text}
use Rattle.feed_gen.proofs.command.counts_and_sums_text.Goals as goal

pub returns : goal.returns
returns c =
    let h : string_bytes c.write.new.self ≡ codes "SELECT COUNT, SUM(c2) FROM t" ++ decimal c.args.table ++ codes " GROUP BY c1" = search rules in
    h ∙ sym (counts_and_sums_text c.args.table)
