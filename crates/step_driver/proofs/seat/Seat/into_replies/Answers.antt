use Rattle.std.proofs.Common.{◌≡◌, ◌+◌, ◌-◌, ◌≤◌, ◌<◌, List, [], ◌∷◌, ◌++◌, length, map, ap, sym, ◌∙◌, arith, append_assoc, append-nil}
use Rattle.std.specs.Prelude.{replicate}
use Rattle.std.proofs.lemmas.List.{length-map}
use Rattle.adg_base.specs.declared.answer.Reply.{Reply}
use Rattle.adg_base.specs.declared.answer.Reply.TheVariants.{Down}
use Rattle.step_driver.specs.Seating.{request_shown}
use Rattle.step_driver.proofs.Seated.{replicate_more}
use Rattle.step_driver.proofs.seat.Seat.into_replies.Goals as goal

pub loop-init : goal.loop-init
loop-init c =
    let s = c.args.self in
    let first : c.len-counter.result ≡ length s.replies.items = c.len-counter.ensures ∙ s.replies.ok.0 in
    let none : c.len-counter.result - length s.replies.items ≡ 0 = omega arith in
    record {
      added = sym (append-nil s.replies.items) ∙ ap (λ n. s.replies.items ++ replicate n Down) (sym none);
      counter = omega arith;
    }

pub loop-preserved : goal.loop-preserved
loop-preserved c =
    let s = c.args.self in
    let k = c.loop.counter - length s.replies.items in
    let first : c.len-counter.result ≡ length s.replies.items = c.len-counter.ensures ∙ s.replies.ok.0 in
    let last : c.len-end.result ≡ length s.requests.items = c.len-end.ensures ∙ s.requests.ok.0 in
    let from : c.len-counter.result ≤ c.loop.counter = c.loop.auto.counter in
    let test : c.loop.counter < c.len-end.result = c.loop-test.true in
    let next : k + 1 ≡ c.loop.counter + 1 - length s.replies.items = omega arith in
    record {
      added = c.in_ok-push.ensures.items ∙ ap (λ (xs : List Reply). xs ++ Down ∷ []) c.loop.invariant.added ∙ append_assoc s.replies.items (replicate k Down) (Down ∷ [])
          ∙ ap (λ (xs : List Reply). s.replies.items ++ xs) (replicate_more k Down ∙ ap (λ n. replicate n Down) next);
      counter = omega arith;
    }

pub returns : goal.returns
returns c =
    let s = c.args.self in
    let last : c.len-end.result ≡ length s.requests.items = c.len-end.ensures ∙ s.requests.ok.0 in
    let over : c.len-end.result ≤ c.loop.counter = c.loop-test.false in
    let most : c.loop.counter ≤ length s.replies.items + (length s.requests.items - length s.replies.items) = c.loop.invariant.counter in
    let shown : length (map request_shown s.requests.items) ≡ length s.requests.items = length-map s.requests.items request_shown in
    let same : c.loop.counter - length s.replies.items ≡ length (map request_shown s.requests.items) - length s.replies.items = omega arith in
    c.loop.invariant.added ∙ ap (λ n. s.replies.items ++ replicate n Down) same
