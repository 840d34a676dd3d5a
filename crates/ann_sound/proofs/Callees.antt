-- The callees of a program have the parameters of its functions.
use Rattle.std.proofs.Common.{◌≡◌, ℕ, zero, suc, ◌+◌, Bool, List, [], ◌∷◌, ◌++◌, map, length, slice_get, Some, refl, sym, ap, ◌∙◌, append_assoc, flat_map}
use Rattle.std.specs.Prelude.{option_map}
use Rattle.std.proofs.lemmas.List.{map-append, append-nil, length-map}
use Rattle.std.proofs.lemmas.Option.{none-some, same_Some, slice_get-map}
use Rattle.rpy_tree.specs.declared.program.FunInfo.{FunInfo}
use Rattle.rpy_tree.specs.declared.program.Program.{Program}
use Rattle.rpy_tree.specs.declared.program.Use.{Use}
use Rattle.rpy_tree.specs.declared.syntax.ClassDef.{ClassDef}
use Rattle.rpy_tree.specs.declared.syntax.Function as syntax
use Rattle.rpy_tree.specs.declared.syntax.Member.{Member, out-Member}
use Rattle.rpy_tree.specs.declared.syntax.Member.TheOpen.{Member-F}
use Rattle.rpy_tree.specs.declared.syntax.Module.{Module}
use Rattle.rpy_tree.specs.declared.syntax.Param.{Param}
use Rattle.rpy_meaning.specs.Resolved.{Names, names_at, default_of}
use Rattle.rpy_meaning.specs.Tree as meant
use Rattle.rpy_resolved.specs.declared.tree.Resolved.{Resolved}
use Rattle.resolved_meaning.specs.Programs.{value_in}
use Rattle.resolved_laws.specs.Meant.{further_of}
use Rattle.resolver_laws.specs.Listing.{tree_in, numbered, method_in, method_pairs, member_in, member_pairs, module_pairs}
use Rattle.resolver_laws.specs.Made.{IsMadeOf}
use Rattle.flow_graph.specs.declared.graph.Graphs.{Graphs}
use Rattle.flow_trees.specs.Tree.{Function}
use Rattle.flow_space.specs.Trees.{function_of, functions_of}
use Rattle.class_desc.specs.Tables.{Tables}
use Rattle.ann_rules.specs.Program as rules
use Rattle.ann_needs.specs.View.{whole, callee_of}
use Rattle.ann_needs.specs.declared.plan.Callee.{Callee}
use Rattle.ann_layout.specs.Callees.{callees, callee, default, with_method, with_methods, with_member, with_members, with_modules}
use Rattle.ann_layout.specs.Layout.{plan}

-- what stands at a place of a mapped list
pub map_inside : {A B : Type 0} → (g : A → B) (xs : List A) (i : ℕ) (y : B) → slice_get (map g xs) i ≡ Some y → (x : A) × (slice_get xs i ≡ Some x) × (g x ≡ y)
map_inside g [] i y e = absurd (none-some y e)
map_inside g (x ∷ xs) zero y e = (x, refl, same_Some (g x) y e)
map_inside g (x ∷ xs) (suc i) y e = map_inside g xs i y e

-- how many parameters, and whether more are taken
abbrev Shape : Type 0
Shape = ℕ × Bool

abbrev of_callee : Callee → Shape
of_callee c = (length c.defaults, c.star)

abbrev of_source : Names × syntax.Function → Shape
of_source x = (length x.1.params, x.1.star)

abbrev of_tree : meant.Function → Shape
of_tree f = (length f.defaults, f.takes_more)

-- ---- callees, and functions of modules

module _ (uses : List Use) (first : ℕ) (names : Names) where
  callee_alike : (f : syntax.Function) → of_callee (callee uses first f) ≡ of_source (names, f)
  callee_alike f = λ i. (length-map f.params (default uses first) i, f.star)

  method_alike : (x : Member-F Member ClassDef) (cs : List Callee) → map of_callee (with_method uses first x cs) ≡ map of_callee cs ++ map of_source (method_in names x)
  method_alike (Member-F.Def f) cs = map-append of_callee cs (callee uses first f ∷ []) ∙ ap (λ s. map of_callee cs ++ s ∷ []) (callee_alike f)
  method_alike (Member-F.Import n path) cs = sym (append-nil (map of_callee cs))
  method_alike (Member-F.From n path path') cs = sym (append-nil (map of_callee cs))
  method_alike (Member-F.Const n name e) cs = sym (append-nil (map of_callee cs))
  method_alike (Member-F.Class c) cs = sym (append-nil (map of_callee cs))

  methods_alike : (ms : List Member) (cs : List Callee) → map of_callee (with_methods uses first ms cs) ≡ map of_callee cs ++ map of_source (flat_map (method_pairs names) ms)
  methods_alike [] cs = sym (append-nil (map of_callee cs))
  methods_alike (m ∷ ms) cs =
      methods_alike ms (with_method uses first (out-Member m) cs)
      ∙ ap (λ us. us ++ map of_source (flat_map (method_pairs names) ms)) (method_alike (out-Member m) cs)
      ∙ append_assoc (map of_callee cs) (map of_source (method_pairs names m)) (map of_source (flat_map (method_pairs names) ms))
      ∙ ap (λ us. map of_callee cs ++ us) (sym (map-append of_source (method_pairs names m) (flat_map (method_pairs names) ms)))

  member_alike : (x : Member-F Member ClassDef) (cs : List Callee) → map of_callee (with_member uses first x cs) ≡ map of_callee cs ++ map of_source (member_in names x)
  member_alike (Member-F.Def f) cs = method_alike (Member-F.Def f) cs
  member_alike (Member-F.Import n path) cs = method_alike (Member-F.Import n path) cs
  member_alike (Member-F.From n path path') cs = method_alike (Member-F.From n path path') cs
  member_alike (Member-F.Const n name e) cs = method_alike (Member-F.Const n name e) cs
  member_alike (Member-F.Class c) cs = methods_alike c.members cs

  members_alike : (ms : List Member) (cs : List Callee) → map of_callee (with_members uses first ms cs) ≡ map of_callee cs ++ map of_source (flat_map (member_pairs names) ms)
  members_alike [] cs = sym (append-nil (map of_callee cs))
  members_alike (m ∷ ms) cs =
      members_alike ms (with_member uses first (out-Member m) cs)
      ∙ ap (λ us. us ++ map of_source (flat_map (member_pairs names) ms)) (member_alike (out-Member m) cs)
      ∙ append_assoc (map of_callee cs) (map of_source (member_pairs names m)) (map of_source (flat_map (member_pairs names) ms))
      ∙ ap (λ us. map of_callee cs ++ us) (sym (map-append of_source (member_pairs names m) (flat_map (member_pairs names) ms)))

module _ (p : Program) where
  modules_alike : (first : ℕ) (ms : List Module) (cs : List Callee) → map of_callee (with_modules p.uses first ms cs) ≡ map of_callee cs ++ map of_source (module_pairs p first ms)
  modules_alike first [] cs = sym (append-nil (map of_callee cs))
  modules_alike first (m ∷ ms) cs =
      let names = names_at p (further_of p) first in
      modules_alike (first + m.nodes) ms (with_members p.uses first m.members cs)
      ∙ ap (λ us. us ++ map of_source (module_pairs p (first + m.nodes) ms)) (members_alike p.uses first names m.members cs)
      ∙ append_assoc (map of_callee cs) (map of_source (flat_map (member_pairs names) m.members)) (map of_source (module_pairs p (first + m.nodes) ms))
      ∙ ap (λ us. map of_callee cs ++ us) (sym (map-append of_source (flat_map (member_pairs names) m.members) (module_pairs p (first + m.nodes) ms)))

  -- ---- functions that are made of them

  numbered_alike : (infos : List FunInfo) (n : ℕ) (xs : List (Names × syntax.Function)) → map of_tree (numbered infos n xs) ≡ map of_source xs
  numbered_alike infos n [] = refl
  numbered_alike infos n (x ∷ xs) = λ i. (length-map x.1.params (λ (q : Param). default_of x.0 q.default) i, x.1.star) ∷ numbered_alike infos (n + 1) xs i

  module _ (r : Resolved) (made : IsMadeOf p r) where
    shapes : map of_tree (map (tree_in p) r.functions) ≡ map of_callee (callees p)
    shapes = ap (map of_tree) made.functions ∙ numbered_alike p.functions 0 (module_pairs p 0 p.modules) ∙ sym (modules_alike 0 p.modules [])

    pub callee_of_function : (gs : Graphs) (t : Tables) (f : ℕ) (function : Function) → slice_get (functions_of r) f ≡ Some function
        → (c : rules.Callee) × (slice_get (whole (plan p gs t)).callees f ≡ Some c) × (length c.defaults ≡ length function.defaults) × (c.star ≡ function.takes_more)
    callee_of_function gs t f function is =
        let at = map_inside (function_of r.sites) r.functions f function is in
        let there : slice_get (map of_callee (callees p)) f ≡ Some (of_tree (tree_in p at.0)) =
        ap (λ (us : List Shape). slice_get us f) (sym shapes) ∙ slice_get-map of_tree (map (tree_in p) r.functions) f
        ∙ ap (option_map of_tree) (slice_get-map (tree_in p) r.functions f ∙ ap (option_map (tree_in p)) at.1) in
        let c = map_inside of_callee (callees p) f (of_tree (tree_in p at.0)) there in (
          callee_of c.0,
          slice_get-map callee_of (callees p) f ∙ ap (option_map callee_of) c.1,
          ap (λ (s : Shape). s.0) c.2 ∙ length-map at.0.defaults (option_map (value_in p.sites)) ∙ sym (length-map at.0.defaults (option_map (value_in r.sites))) ∙ ap (λ (g : Function). length g.defaults) at.2,
          ap (λ (s : Shape). s.1) c.2 ∙ ap (λ (g : Function). g.takes_more) at.2,
        )
