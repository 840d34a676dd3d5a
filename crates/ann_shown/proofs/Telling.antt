-- What was found is told.
use Rattle.std.proofs.Common.{◌≡◌, ℕ, List, map, slice_get, Some, refl, sym, subst}
use Rattle.rpy_tree.specs.declared.program.Program.{Program}
use Rattle.flow_graph.specs.declared.graph.Op.{Op}
use Rattle.flow_graph.specs.declared.graph.Block.{Block}
use Rattle.flow_graph.specs.declared.graph.Graph.{Graph}
use Rattle.ann_element.specs.Sites.{leader}
use Rattle.ann_element.specs.declared.element.Element.{Element}
use Rattle.ann_element.specs.declared.annotation.SpotKind.TheVariants as spot
use Rattle.ann_lattice.specs.Shape.{shape}
use Rattle.ann_lattice.specs.Laws.{named}
use Rattle.ann_lattice.specs.Assign.{Assignment}
use Rattle.ann_rules.specs.Program.{Whole}
use Rattle.rpy_kinds.specs.Places.{kind_at}
use Rattle.ann_shown.specs.Functions.{function_node, param_node}
use Rattle.ann_shown.specs.Operands.{operands, in_text}
use Rattle.ann_shown.specs.Told as spec
use Rattle.ann_shown.specs.declared.told.Told.{Told}

module _ (p : Program) (q : Whole) (a : Assignment) (c : ℕ) (t : Told) where
  pub param_told : (f i node : ℕ) → t ≡ spec.part_told node spot.Param → q.places.param f i ≡ c → Some node ≡ param_node p f i → spec.IsTold p q a c t
  param_told f i node e cell n = subst (spec.IsTold p q a c) (sym e) (refl, record { function = f; place = i; cell = cell; node = n })

  pub result_told : (f node : ℕ) → t ≡ spec.part_told node spot.Result → q.places.result f ≡ c → Some node ≡ function_node p f → spec.IsTold p q a c t
  result_told f node e cell n = subst (spec.IsTold p q a c) (sym e) (refl, record { function = f; cell = cell; node = n })

  pub attribute_told : (h node : ℕ) (name : List ℕ) → t ≡ spec.part_told node (spot.Attr name) → q.places.attribute h name ≡ c → Some node ≡ spec.class_node p h → spec.IsTold p q a c t
  attribute_told h node name e cell n = subst (spec.IsTold p q a c) (sym e) (refl, record { home = h; cell = cell; node = n })

  pub item_told : (s node : ℕ) → t ≡ spec.part_told node spot.Items → q.places.item s ≡ c → Some node ≡ spec.site_node p (leader a.same s) → spec.IsTold p q a c t
  item_told s node e cell n = subst (spec.IsTold p q a c) (sym e) (refl, record { site = s; cell = cell; node = n })

  pub key_told : (s node : ℕ) → t ≡ spec.part_told node spot.Keys → q.places.key s ≡ c → Some node ≡ spec.site_node p (leader a.same s) → spec.IsTold p q a c t
  key_told s node e cell n = subst (spec.IsTold p q a c) (sym e) (refl, record { site = s; cell = cell; node = n })

  pub operation_told : (g : ℕ) (graph : Graph) (i : ℕ) (b : Block) (j : ℕ) (o : Op) (es : List Element) → t ≡ spec.op_told o.node es
      → Some graph ≡ slice_get q.graphs g → Some b ≡ slice_get graph.blocks i → Some o ≡ slice_get b.ops j → q.places.variable g o.result ≡ c
      → map shape es ≡ map (named a.same) (in_text q a (kind_at p.modules o.node) o.op (operands q a g o)) → spec.IsTold p q a c t
  operation_told g graph i b j o es e in_program in_graph in_block cell told = subst (spec.IsTold p q a c) (sym e) (record {
    graph_number = g;
    graph = graph;
    graph_is = sym in_program;
    block_number = i;
    block = b;
    block_is = sym in_graph;
    index = j;
    op = o;
    op_is = sym in_block;
    cell = cell;
    node = refl;
    operands = told;
  })
