-- The definition of an object as a value of the code, beside the definition that the log gives it.
use Rattle.std.specs.Prelude.{ℕ, ◌≡◌, length, take, Option, Some, None}
use Rattle.adg_base.specs.declared.definition.Definition.{Definition}
use Rattle.adg_model.specs.Database.{Table}

-- what a definition says of its object; the kinds from its width on mean nothing
abbrev pub table_of : Definition → Table
table_of d = record { extents = d.extents; flag = d.flag; kinds = take d.width d.kinds }

-- a definition says of this object what this table does
pub record IsDefinition (obj : ℕ) (table : Table) (d : Definition) : Type 0 where
  pub object : d.obj ≡ obj
  pub extents : d.extents ≡ table.extents
  pub flag : d.flag ≡ table.flag
  pub width : d.width ≡ length table.kinds
  pub kinds : take d.width d.kinds ≡ table.kinds

-- there is a definition exactly where there is a table, and it says the same
abbrev pub AreDefined : ℕ → Option Table → Option Definition → Type 0
AreDefined obj None None = Unit {0}
AreDefined obj None (Some d) = ⊥
AreDefined obj (Some table) None = ⊥
AreDefined obj (Some table) (Some d) = IsDefinition obj table d
