use Rattle.std.proofs.Common.{List, ℕ, ◌++◌, ap, ◌∙◌}
use Rattle.feed_text.proofs.ShownLaws.{comment_line, comment_added}
use Rattle.feed_text.proofs.show.put_comment.Goals as goal

pub returns : goal.returns
returns c =
    let same = c.as_slice.ensures.value ∙ c.in_ok-extend_from_slice.ensures.items ∙ ap (λ (l : List ℕ). l ++ c.args.comment.now) c.in_ok-text.ensures.items in
    c.in_ok-put_ended.ensures _ (comment_added c.args.comment.now c.as_slice.result.now same)

pub put_ended-requires : goal.put_ended-requires
put_ended-requires c =
    let same = c.as_slice.ensures.value ∙ c.in_ok-extend_from_slice.ensures.items ∙ ap (λ (l : List ℕ). l ++ c.args.comment.now) c.in_ok-text.ensures.items in
    comment_line c.args.comment.now c.as_slice.result.now c.requires same
