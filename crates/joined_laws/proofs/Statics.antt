-- Statics keep their rules in a program with other graphs, as many as before.
use Rattle.std.proofs.Common.{◌≡◌, ℕ, zero, suc, ◌+◌, Bool, ◌&&◌, List, [], ◌∷◌, length, Option, Some, None, refl, ap, ◌∙◌}
use Rattle.std.specs.Prelude.{slice_get, nat_lt}
use Rattle.csub_tree.specs.Checked.{Cell, Cells, Plain, Braced, end, then_cell, plain_cells}
use Rattle.csub_tree.specs.declared.tree.CConst.{CConst}
use Rattle.csub_tree.specs.declared.tree.CConst.TheVariants as constant
use Rattle.csub_tree.specs.declared.tree.CStatic.{CStatic}
use Rattle.ll_code.specs.Typed.{is_of, is_plain, all_plain, items_ok, fields_ok, based_ok, shaped_ok, cells_within, statics_ok}
use Rattle.ll_code.specs.declared.program.LlType.{LlType}
use Rattle.ll_code.specs.declared.program.LlType.TheVariants as type
use Rattle.ll_code.specs.declared.program.LlStruct.{LlStruct}
use Rattle.ll_code.specs.declared.program.LlGraph.{LlGraph}
use Rattle.ll_code.specs.declared.program.LlProgram.{LlProgram}

abbrev pub with_graphs : LlProgram → List LlGraph → LlProgram
with_graphs p graphs = record p { graphs = graphs }

module _ (p : LlProgram) (graphs : List LlGraph) (many : length graphs ≡ length p.graphs) where
  pub constant_same : (n : ℕ) (t : LlType) (c : CConst) → is_of (with_graphs p graphs) n t c ≡ is_of p n t c
  constant_same n type.Fn (constant.Fun f) = ap (nat_lt f) many
  constant_same n t c = refl

  module _ (n : ℕ) where
    plain_same : (t : LlType) (x : Cell) → is_plain (with_graphs p graphs) n t x ≡ is_plain p n t x
    plain_same t (Plain c) = constant_same n t c
    plain_same t (Braced cells) = refl

    all_plain_same : (t : LlType) (cells : Cells) → all_plain (with_graphs p graphs) n t cells ≡ all_plain p n t cells
    all_plain_same t end = refl
    all_plain_same t (then_cell x cells) =
        ap (λ b. b && all_plain (with_graphs p graphs) n t cells) (plain_same t x) ∙ ap (λ b. is_plain p n t x && b) (all_plain_same t cells)

    items_same : (items : Option LlType) (cells : Cells) → items_ok (with_graphs p graphs) n items cells ≡ items_ok p n items cells
    items_same None end = refl
    items_same None (then_cell x cells) = refl
    items_same (Some t) end = refl
    items_same (Some t) (then_cell (Plain c) cells) = refl
    items_same (Some t) (then_cell (Braced cells) end) = all_plain_same t cells
    items_same (Some t) (then_cell (Braced cells) (then_cell x more)) = refl

    fields_same : (ts : List LlType) (items : Option LlType) (cells : Cells) → fields_ok (with_graphs p graphs) n ts items cells ≡ fields_ok p n ts items cells
    fields_same [] items cells = items_same items cells
    fields_same (t ∷ ts) items end = refl
    fields_same (t ∷ ts) items (then_cell x cells) =
        ap (λ b. b && fields_ok (with_graphs p graphs) n ts items cells) (plain_same t x) ∙ ap (λ b. is_plain p n t x && b) (fields_same ts items cells)

    module _ (new_ok base_ok : ℕ → Cells → Bool) (same : (m : ℕ) (cells : Cells) → new_ok m cells ≡ base_ok m cells) where
      based_same : (s : LlStruct) (base : Option ℕ) (cells : Cells) → based_ok (with_graphs p graphs) n new_ok s base cells ≡ based_ok p n base_ok s base cells
      based_same s None cells = fields_same s.fields s.items cells
      based_same s (Some m) end = refl
      based_same s (Some m) (then_cell (Plain x) cells) = refl
      based_same s (Some m) (then_cell (Braced base) cells) =
          ap (λ b. b && fields_ok (with_graphs p graphs) n s.fields s.items cells) (same m base) ∙ ap (λ b. base_ok m base && b) (fields_same s.fields s.items cells)

      shaped_same : (o : Option LlStruct) (cells : Cells) → shaped_ok (with_graphs p graphs) n new_ok o cells ≡ shaped_ok p n base_ok o cells
      shaped_same None cells = refl
      shaped_same (Some s) cells = based_same s s.base cells

    within_same : (k kind : ℕ) (cells : Cells) → cells_within (with_graphs p graphs) n k kind cells ≡ cells_within p n k kind cells
    unfolding cells_within
    within_same zero kind cells = refl
    within_same (suc k) kind cells = shaped_same (cells_within (with_graphs p graphs) n k) (cells_within p n k) (λ m cells. within_same k m cells) (slice_get p.structs kind) cells

  pub statics_same : (n : ℕ) (statics : List CStatic) → statics_ok (with_graphs p graphs) n statics ≡ statics_ok p n statics
  statics_same n [] = refl
  statics_same n (g ∷ statics) =
      ap (λ b. b && statics_ok (with_graphs p graphs) (n + 1) statics) (within_same n (suc g.kind) g.kind (plain_cells g.cells))
      ∙ ap (λ b. cells_within p n (suc g.kind) g.kind (plain_cells g.cells) && b) (statics_same (n + 1) statics)
