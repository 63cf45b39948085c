use Rattle.std.proofs.Common.{◌++◌, ◌∷◌, [], length}
use Rattle.std.specs.Int.{w16, w64, to_be_bytes}
use Rattle.adg_model.specs.Spelling.{vectors_bytes}
use Rattle.change_vectors.proofs.Written.{in_three}
use Rattle.change_vectors.proofs.write.put_record.Goals as goal

pub returns-clause-written : goal.returns-clause-written
returns-clause-written c = in_three c.args.out.now.items c.put_head.new.out.items c.put_vectors.new.out.items c.put_u16.new.out.items (to_be_bytes w16 c.args.len ++ to_be_bytes w64 c.args.scn ++ length c.args.vectors.now ∷ []) (vectors_bytes c.args.vectors.now) (to_be_bytes w16 c.args.len) c.in_ok-put_head.ensures c.in_ok-put_vectors.ensures.written c.in_ok-put_u16.ensures
