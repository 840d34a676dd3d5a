-- The statics of vtables are what is known of them.
use Rattle.std.proofs.Common.{◌≡◌, ℕ, ◌+◌, Bool, List, [], ◌∷◌, ◌++◌, length, take, drop, Some, sym, ap, ◌∙◌, arith}
use Rattle.std.specs.Prelude.{◌-◌, slice_get, unwrap_or, option_map, pos}
use Rattle.std.proofs.lemmas.Option.{slice_get-map}
use Rattle.std.proofs.lemmas.List.{take_at, drop_at}
use Rattle.csub_tree.specs.State.{Value, Word}
use Rattle.csub_tree.specs.Layout.{Shape, shape_at, static_block, static_values}
use Rattle.csub_tree.specs.declared.tree.CCell.TheVariants as cell
use Rattle.csub_tree.specs.declared.tree.CConst.TheVariants as fixed
use Rattle.ll_code.specs.Machine.{shapes_of}
use Rattle.ll_code.specs.declared.program.LlProgram.{LlProgram}
use Rattle.ll_texts.specs.Texts.{found}
use Rattle.rpy_resolved.specs.declared.tree.Resolved.{Resolved}
use Rattle.class_desc.specs.Range.{range}
use Rattle.rtyper_layout.specs.declared.classes.Laid.{Laid}
use Rattle.rtyper_layout.specs.Families.{vtable_of}
use Rattle.rtyper_layout.specs.Types.{word}
use Rattle.rtyper_class.specs.Seen.{World, laid}
use Rattle.rtyper_class.specs.Vtables.{exceptions, vtable, vtables, method_cells, name_cells, names_of}
use Rattle.object_laws.specs.Known.{vtable_block}
use Rattle.object_laws.specs.Represents.{shapes}
use Rattle.layout_laws.specs.Knowing.{values, vtable_in, vtable_known}
use Rattle.layout_laws.specs.Statics.{statics_of, HasStatics, VtablesStand}
use Rattle.layout_laws.proofs.Cells.{values_both, value_first, values_in, count_methods}
use Rattle.layout_laws.proofs.Classes.{of_world}
use Rattle.layout_laws.proofs.Facts.{Facts}
use Rattle.layout_laws.proofs.Places.{get_left, get_right, get_within}
use Rattle.layout_laws.proofs.Shapes.{shape_kept}
use Rattle.layout_laws.proofs.Structs.{word_same}

module _ (world : World) (program : Resolved) (reached : List Bool) (p : LlProgram) (of : Facts world.classes.classes world.attributes world.around.layout) (has : HasStatics world program reached p) (class : ℕ) (l : Laid) (is : laid world class ≡ Some l) where
  abbrev methods : List Value
  methods = values (method_cells world reached class (names_of world (vtable_of (laid world class))))

  abbrev name : List Value
  name = values (name_cells program class)

  abbrev number : Value
  number = Word (pos (range world.classes.classes class).0)

  values_are : static_values (vtable world program reached class) ≡ (number ∷ methods) ++ name
  values_are =
      value_first (fixed.Word (pos (range world.classes.classes class).0)) (method_cells world reached class (names_of world (vtable_of (laid world class))) ++ cell.Braces (name_cells program class) ∷ [])
      ∙ ap (λ vs. number ∷ vs) (values_both (method_cells world reached class (names_of world (vtable_of (laid world class)))) (cell.Braces (name_cells program class) ∷ []) ∙ ap (λ vs. methods ++ vs) (values_in (name_cells program class)))

  kind_is : vtable_of (laid world class) ≡ l.vtable
  kind_is = ap vtable_of is

  size_is : (shape_at (shapes_of p.structs) (vtable_of (laid world class))).size ≡ length (number ∷ methods)
  size_is =
      let v = of.vtable class l is in
      let names : names_of world (vtable_of (laid world class)) ≡ v.names = ap (λ n. unwrap_or (slice_get world.around.layout.methods (n - 1)) []) kind_is ∙ ap (λ o. unwrap_or o []) v.named in
      let count : length methods ≡ length v.names = count_methods world reached class (names_of world (vtable_of (laid world class))) ∙ ap length names in
      let shape : (shape_at (shapes world.around.layout) l.vtable).size ≡ 1 + length v.names = ap (λ (s : Shape). s.size) v.shape in
      ap (λ n. (shape_at (shapes_of p.structs) n).size) kind_is ∙ ap (λ ss. (shape_at (shapes_of ss) l.vtable).size) has.structs
      ∙ ap (λ (s : Shape). s.size) (shape_kept world.around.layout.structs has.more l.vtable v.inside) ∙ omega (arith, shape, count)

  block_is : static_block (shapes_of p.structs) (vtable world program reached class) ≡ vtable_block l.vtable (vtable_known world program reached class)
  block_is =
      ap (λ vs. record { kind = vtable_of (laid world class); fields = take (shape_at (shapes_of p.structs) (vtable_of (laid world class))).size vs; items = drop (shape_at (shapes_of p.structs) (vtable_of (laid world class))).size vs }) values_are
      ∙ ap (λ vs. record { kind = vtable_of (laid world class); fields = vs; items = drop (shape_at (shapes_of p.structs) (vtable_of (laid world class))).size ((number ∷ methods) ++ name) }) (take_at (number ∷ methods) name _ (sym size_is))
      ∙ ap (λ vs. record { kind = vtable_of (laid world class); fields = number ∷ methods; items = vs }) (drop_at (number ∷ methods) name _ (sym size_is))
      ∙ ap (λ n. record { kind = n; fields = number ∷ methods; items = name }) kind_is

  -- where it stands
  listed : slice_get (vtables world program reached) l.place ≡ Some (vtable world program reached class)
  listed = slice_get-map (vtable world program reached) world.around.layout.order l.place ∙ ap (option_map (vtable world program reached)) (of.order class l is)

  at_place : slice_get p.statics (world.first_vtable + l.place) ≡ Some (vtable world program reached class)
  at_place =
      ap (λ ss. slice_get ss (world.first_vtable + l.place)) has.statics
      ∙ get_right has.before (vtables world program reached ++ (exceptions world ++ has.rest)) (world.first_vtable + l.place) l.place (omega (arith, has.first))
      ∙ get_left (vtables world program reached) (exceptions world ++ has.rest) l.place (vtable world program reached class) listed

  place_is : word (world.first_vtable + l.place) ≡ world.first_vtable + l.place
  place_is = (let z = get_within p.statics (world.first_vtable + l.place) (vtable world program reached class) at_place in word_same (world.first_vtable + l.place) (omega (arith, z, has.few)))

  stands : found [] (statics_of p) (vtable_known world program reached class).at ≡ Some (vtable_block l.vtable (vtable_known world program reached class))
  stands =
      ap (λ o. found [] (statics_of p) (vtable_in world o)) is ∙ ap (slice_get (statics_of p)) place_is
      ∙ slice_get-map (static_block (shapes_of p.structs)) p.statics (world.first_vtable + l.place) ∙ ap (option_map (static_block (shapes_of p.structs))) at_place ∙ ap Some block_is

pub vtables_stand : VtablesStand
vtables_stand program annotation raises world reached p is counted has class l laid_as = stands world program reached p (of_world program annotation raises world is counted) has class l laid_as
