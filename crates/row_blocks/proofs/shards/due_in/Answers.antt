use Rattle.std.specs.List.{slice_get}
use Rattle.std.proofs.Common.{◌≡◌, ◌<◌, length, Some, sym, ap, ◌∙◌, subst, arith}
use Rattle.std.proofs.lemmas.Option.{same_Some, slice_get-get_or}
use Rattle.row_blocks.specs.declared.shard.Shard.{Shard}
use Rattle.row_blocks.specs.Versions.{end_of as log_end}
use Rattle.row_blocks.specs.Shard.{shown}
use Rattle.row_blocks.specs.Settled.{settled_at, AreEnded}
use Rattle.row_blocks.proofs.shards.due_in.Goals as goal

pub returns : goal.returns
returns c log shard ends at known =
    let addr = c.in_ok-addr.addr in
    let found = c.index-shards-from.result in
    let within : c.from.result < length c.args.shards.now = omega (arith, c.requires, c.from.ensures) in
    let same : shard ≡ found =
    same_Some shard found (sym at ∙ ap (slice_get c.args.shards.now) (sym c.from.ensures) ∙ slice_get-get_or c.args.shards.now c.from.result found within ∙ ap Some (sym c.index-shards-from.is)) in
    let versions : c.versions.result.now ≡ (shown shard).versions addr = c.versions.ensures ∙ ap (λ (x : Shard). (shown x).versions addr) (sym same) in
    let settled : c.settled.result ≡ settled_at shard addr = c.settled.ensures ∙ ap (λ (x : Shard). settled_at x addr) (sym same) in
    subst (λ vs. AreEnded (log_end log) vs c.more_settled-settled.result) versions
    (c.more_settled-settled.ensures log ends (subst (AreEnded (log_end log) c.versions.result.now) (sym settled) (subst (λ vs. AreEnded (log_end log) vs (settled_at shard addr)) (sym versions) known)))
