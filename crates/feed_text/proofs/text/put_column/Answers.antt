use Rattle.std.proofs.Common.{List, ℕ, ◌++◌, codes, ap, ◌∙◌}
use Rattle.std.specs.Fmt.{decimal}
use Rattle.feed_text.specs.Words.{kind_text}
use Rattle.feed_text.proofs.ListSteps.{in_three}
use Rattle.feed_text.proofs.text.put_column.Goals as goal

pub returns : goal.returns
returns c =
    in_three c.args.out.now.items c.put_obj.new.out.items c.extend_from_slice.new.self.items c.extend_from_slice-2.new.self.items (codes "AddColumn t" ++ decimal c.args.obj) (codes " ") (kind_text c.args.kind)
    c.in_ok-put_obj.ensures c.in_ok-extend_from_slice.ensures.items (c.in_ok-extend_from_slice-2.ensures.items ∙ ap (λ (l : List ℕ). c.extend_from_slice.new.self.items ++ l) c.kind_word.ensures)
