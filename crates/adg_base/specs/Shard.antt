use Rattle.std.specs.Prelude.{ℕ, Option, Some, None, ◌+◌, ◌%◌}
use Rattle.adg_base.specs.declared.vector.Vector.{Vector}
use Rattle.adg_base.specs.declared.vector.Vector.TheVariants.{Begin, Put, Delete, Undo, Commit, Abort, Create, DropObject, AddColumn, NoInMemory, EndThread}

-- the shard of a block, of a transaction and of an object, one of 64
abbrev pub shard_of_block : ℕ → ℕ → ℕ
shard_of_block obj block = (obj + block) % 64

abbrev pub shard_of_txn : ℕ → ℕ
shard_of_txn txn = txn % 64

abbrev pub shard_of_object : ℕ → ℕ
shard_of_object obj = obj % 64

-- the shard of a column unit, one of 32
abbrev pub shard_of_unit : ℕ → ℕ → ℕ
shard_of_unit obj extent = (obj + extent) % 32

-- the shard that a vector belongs to: that of its block, its transaction or its object
abbrev pub shard_of_vector : Vector → Option ℕ
shard_of_vector (Begin txn) = Some (shard_of_txn txn)
shard_of_vector (Put txn obj block slot row) = Some (shard_of_block obj block)
shard_of_vector (Delete txn obj block slot) = Some (shard_of_block obj block)
shard_of_vector (Undo txn obj block slot) = Some (shard_of_block obj block)
shard_of_vector (Commit txn flag) = Some (shard_of_txn txn)
shard_of_vector (Abort txn) = Some (shard_of_txn txn)
shard_of_vector (Create obj extents flag columns) = Some (shard_of_object obj)
shard_of_vector (DropObject obj) = Some (shard_of_object obj)
shard_of_vector (AddColumn obj kind) = Some (shard_of_object obj)
shard_of_vector (NoInMemory obj) = Some (shard_of_object obj)
shard_of_vector EndThread = None
