-- What a counted program counts.
use Rattle.std.specs.Prelude.{ℕ, ◌-◌, ◌==◌, ◌&&◌, Bool, true, List, [], ◌∷◌, map, Option, Some, None}
use Rattle.csub_tree.specs.Layout.{Shape, shape_at, place}
use Rattle.ll_code.specs.Machine.{shapes_of}
use Rattle.ll_code.specs.declared.program.LlType.{LlType}
use Rattle.ll_code.specs.declared.program.LlStruct.{LlStruct}
use Rattle.ll_code.specs.declared.program.LlProgram.{LlProgram}
use Rattle.refcount_transform.specs.declared.plan.Held.{Held}
use Rattle.refcount_transform.specs.Plan.{Plan, plan_of, is_counted, counts_at, root_of, referred, reference_given, items_referred, field_number, held_of}
use Rattle.refcount_transform.specs.Counted.{structs_of}
use Rattle.refcount_laws.specs.Graphs.{Reference, Counts}

abbrev pub shapes_counted : Plan → List Shape
shapes_counted plan = shapes_of (structs_of plan)

-- the place behind the count and the release
abbrev pub place_in : Plan → ℕ → ℕ → ℕ
place_in plan n number = place (shape_at (shapes_counted plan) n) number - 2

abbrev pub reference_of : Plan → Held → Reference
reference_of plan h = record { owner = h.owner; number = h.number; at = place_in plan h.owner h.number; to = h.to }

abbrev pub counts_of : Plan → Counts
counts_of plan = record {
  counted = λ n. is_counted plan n;
  root = λ n. root_of plan n;
  held = λ n. map (reference_of plan) (held_of plan n);
  items = λ n. items_referred plan n;
  number = λ n. field_number plan n 0;
  number_at = λ n. place_in plan n (field_number plan n 0);
  release = λ n. (counts_at plan n).release;
  up = λ n. (counts_at plan n).up;
  down = λ n. (counts_at plan n).down;
}

-- ---- references lead to roots

abbrev pub is_root_given : Plan → Option ℕ → Bool
is_root_given plan None = true
is_root_given plan (Some m) = root_of plan m == m

abbrev pub all_lead : Plan → List LlType → Bool
all_lead plan [] = true
all_lead plan (t ∷ ts) = is_root_given plan (referred plan t) && all_lead plan ts

abbrev pub structs_lead : Plan → List LlStruct → Bool
structs_lead plan [] = true
structs_lead plan (s ∷ ss) = all_lead plan s.fields && is_root_given plan (reference_given plan.counted s.items) && structs_lead plan ss

-- fields and items that are references lead to root structs: only these have graphs that count
abbrev pub leads_to_roots : LlProgram → Bool
leads_to_roots p = structs_lead (plan_of p) p.structs
