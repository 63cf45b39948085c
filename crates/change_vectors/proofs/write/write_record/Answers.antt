use Rattle.std.proofs.Common.{◌≡◌, ◌+◌, ◌∙◌, length, refl, arith}
use Rattle.adg_model.specs.Spelling.{vectors_bytes}
use Rattle.change_vectors.proofs.Sizes.{what_is_left}
use Rattle.change_vectors.proofs.Written.{is_record, is_spelled}
use Rattle.change_vectors.proofs.write.write_record.Goals as goal

pub returns-clause-written : goal.returns-clause-written
returns-clause-written c =
    let room : c.in-Some.left + length (vectors_bytes c.as_slice-vectors.result.now) ≡ 65522 = what_is_left 65522 (length (vectors_bytes c.as_slice-vectors.result.now)) c.in-Some.left c.in-Some.ensures in
    is_spelled c.args.redo.now c.as_slice-vectors.result.now _ c.in-Some.left c.in_ok-out.out.items c.from_vec.result c.as_slice-vectors.ensures c.in_ok-out.ensures.items refl room (c.from_vec.ensures ∙ c.in_ok-put_record.ensures.written)

pub returns-clause-good : goal.returns-clause-good
returns-clause-good c =
    let room : c.in-Some.left + length (vectors_bytes c.as_slice-vectors.result.now) ≡ 65522 = what_is_left 65522 (length (vectors_bytes c.as_slice-vectors.result.now)) c.in-Some.left c.in-Some.ensures in
    is_record c.args.redo.now c.as_slice-vectors.result.now c.in-Some.left c.as_slice-vectors.ensures (λ is. absurd (c.if-get-eq0.false (c.get.ensures.value ∙ is))) (omega (arith, c.get.ensures.range, c.get.ensures.value)) (omega arith) room c.in_ok-put_record.ensures.good
