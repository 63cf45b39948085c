-- A finished scan has the meaning of its SELECT.
use Rattle.std.proofs.Common.{◌≡◌, ℕ, ◌*◌, ◌≤◌, List, length, sym, ap, ◌∙◌, arith}
use Rattle.std.specs.List.{filter_map}
use Rattle.std.proofs.lemmas.List.{length-map}
use Rattle.adg_base.specs.declared.value.Value.{Value}
use Rattle.adg_model.specs.Database.{rows_at}
use Rattle.adg_model.specs.Query.{object_places, object_rows, padded, select_lines, table_rows}
use Rattle.core_rules.specs.State.{CoreState, Scan}
use Rattle.core_rules.specs.UnitParts.{ScanIs}
use Rattle.core_rules.specs.Laws.{FinishedScansHaveMeaning}
use Rattle.core_rules.proofs.Gathered.{bare, bare_rows, map_filter_map, places_of}

-- The rows of a finished scan are those of its object, as wide as it is.
scanned_rows : (c : CoreState) (s : Scan) → ScanIs c.log c.query s → s.table.extents ≤ s.extents → s.rows ≡ table_rows (rows_at c.log s.scn) s.select.obj s.table
scanned_rows c s is whole =
    let most : s.extents ≤ s.table.extents = is.extents in
    let all : s.extents ≡ s.table.extents = omega arith in
    is.rows
    ∙ bare_rows (rows_at c.log s.scn) s.select.obj (length s.table.kinds) 0 (16 * s.extents)
    ∙ ap (λ (n : ℕ). filter_map (bare (rows_at c.log s.scn) (length s.table.kinds)) (places_of s.select.obj 0 (16 * n))) all
    ∙ sym (map_filter_map (padded (length s.table.kinds)) (rows_at c.log s.scn) (object_places s.select.obj s.table.extents))

pub finished_scans_have_meaning : FinishedScansHaveMeaning
finished_scans_have_meaning c place s i found whole =
    let is = i.scans place s found in
    let rows = scanned_rows c s is whole in
    record {
      rows = rows;
      answer = ap (select_lines s.select) rows;
      split =
          is.split
          ∙ ap (λ (rs : List (List Value)). length rs) rows
          ∙ length-map (object_rows (rows_at c.log s.scn) s.select.obj s.table.extents) (padded (length s.table.kinds));
    }
