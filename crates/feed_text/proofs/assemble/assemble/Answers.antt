use Rattle.std.proofs.Common.{◌+◌, sym}
use Rattle.feed_text.specs.LineReading.{split}
use Rattle.feed_text.proofs.AssembleLaws.{at_start, next_line, last_line, broken_line, add_one, none_breaks, breaks_there}
use Rattle.feed_text.proofs.assemble.assemble.Goals as goal

pub loop-reason-init : goal.loop-reason-init
loop-reason-init c = rw c.new-feed.ensures.items (at_start c.args.text.now)

pub loop-reason-preserved : goal.loop-reason-preserved
loop-reason-preserved c =
    next_line c.args.text.now c.loop-reason.feed.items c.add_line.new.out.items c.loop-reason.rest.now c.cut.result.0.now c.in-Some.more.now c.loop-reason.before c.in-Ok.ensures.0 c.loop-reason.invariant
    (sym (rw c.in-Some.is at c.cut.ensures.parts)) (rw c.in-Some.is at c.cut.ensures.fewer) c.in-Ok.ensures.1 c.in-Ok.ensures.2

pub returns-in-None-clause-assembled : goal.returns-in-None-clause-assembled
returns-in-None-clause-assembled c =
    last_line c.args.text.now c.loop-reason.feed.items c.add_line.new.out.items c.loop-reason.rest.now c.cut.result.0.now c.loop-reason.before c.in-Ok.ensures.0 c.loop-reason.invariant
    (sym (rw c.in-None.is at c.cut.ensures.parts)) c.in-Ok.ensures.1 c.in-Ok.ensures.2

pub returns-in-None-clause-only : goal.returns-in-None-clause-only
returns-in-None-clause-only c =
    λ bytes h. (
      add_one (split 10 c.args.text.now) _ bytes
          (last_line c.args.text.now c.loop-reason.feed.items c.add_line.new.out.items c.loop-reason.rest.now c.cut.result.0.now c.loop-reason.before c.in-Ok.ensures.0 c.loop-reason.invariant
          (sym (rw c.in-None.is at c.cut.ensures.parts)) c.in-Ok.ensures.1 c.in-Ok.ensures.2) h,
      λ number reason e. cc,
    )

pub returns-in-Err-Broken-clause-refused : goal.returns-in-Err-Broken-clause-refused
returns-in-Err-Broken-clause-refused c =
    rw c.in-Err-Broken.field-0-is (λ number reason e. breaks_there c.args.text.now (c.loop-reason.before + 1) number c.in-Err-Broken.reason reason e
    (broken_line c.args.text.now c.loop-reason.feed.items c.loop-reason.rest.now c.cut.result.0.now _ c.loop-reason.before c.in-Err-Broken.reason c.loop-reason.invariant (sym c.cut.ensures.parts) (rw c.in-Err-Broken.field-0-is at c.in-Err-Broken.ensures)))

pub returns-in-Err-Broken-clause-only : goal.returns-in-Err-Broken-clause-only
returns-in-Err-Broken-clause-only c =
    λ bytes h. (
      tt,
      λ number reason e. none_breaks 1 (split 10 c.args.text.now) bytes (c.loop-reason.before + 1) c.in-Err-Broken.reason h
          (broken_line c.args.text.now c.loop-reason.feed.items c.loop-reason.rest.now c.cut.result.0.now _ c.loop-reason.before c.in-Err-Broken.reason c.loop-reason.invariant (sym c.cut.ensures.parts) (rw c.in-Err-Broken.field-0-is at c.in-Err-Broken.ensures)),
    )
