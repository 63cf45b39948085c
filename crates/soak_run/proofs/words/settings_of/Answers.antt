use Rattle.std.proofs.Common.{map, string_bytes}
use Rattle.soak_run.proofs.OptionsRead.{none_follows, none_again, read_more, some_words}
use Rattle.soak_run.proofs.words.settings_of.Goals as goal

pub returns-in_default : goal.returns-in_default
returns-in_default c job h =
    none_follows (map (λ w. string_bytes w) c.args.words.now) (map (λ w. string_bytes w) c.loop-rest.rest.now) c.loop-rest.settings job c.loop-rest.invariant h c.in_default.ensures
    (some_words (λ w. string_bytes w) c.loop-rest.rest.now c.loop-rest-test.ensures)

pub returns-then-not-take : goal.returns-then-not-take
returns-then-not-take c job h =
    none_again (map (λ w. string_bytes w) c.args.words.now) (map (λ w. string_bytes w) c.loop-rest.rest.now) c.loop-rest.settings job c.loop-rest.invariant h
    c.in-Some.name c.in-Some.number c.if-not-take.ensures.0 (map (λ w. string_bytes w) c.in-Some.behind.now) c.in-Some.ensures c.if-not-take.ensures.1

pub loop-rest-preserved : goal.loop-rest-preserved
loop-rest-preserved c =
    read_more (map (λ w. string_bytes w) c.args.words.now) (map (λ w. string_bytes w) c.loop-rest.rest.now) (map (λ w. string_bytes w) c.in-Some.behind.now)
    c.loop-rest.settings c.take.new.self c.in-Some.name c.in-Some.number c.loop-rest.invariant c.in-Some.ensures c.if-not-take.ensures
