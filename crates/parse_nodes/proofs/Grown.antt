-- What the rules make of members has no more trees than nodes.
use Rattle.std.proofs.Common.{◌≡◌, ℕ, ◌+◌, ◌≤◌, List, [], ◌∷◌, ◌++◌, length, map, flat_map, sym, ap, ◌∙◌, arith}
use Rattle.std.proofs.lemmas.List.{map-append}
use Rattle.rpy_tree.specs.declared.syntax.ClassDef.{ClassDef}
use Rattle.rpy_tree.specs.declared.syntax.Expr.{Expr}
use Rattle.rpy_tree.specs.declared.syntax.Function.{Function}
use Rattle.rpy_tree.specs.declared.syntax.Member.{Member, out-Member, out-roll-Member}
use Rattle.rpy_tree.specs.declared.syntax.Member.TheOpen.{Member-F}
use Rattle.rpy_tree.specs.declared.syntax.Member.TheVariants as m
use Rattle.rpy_tree.specs.declared.syntax.Member.TheViews as views
use Rattle.rpy_parse.specs.declared.found.Body.{Body}
use Rattle.rpy_parse.specs.declared.found.Got.{Got}
use Rattle.rpy_parse.specs.declared.found.Grown.{Grown}
use Rattle.rpy_parse.specs.declared.found.Members.{Members}
use Rattle.rpy_parse.specs.declared.found.Params.{Params}
use Rattle.rpy_parse.specs.Build.{Lines, member_pushed, constant_of, import_of, from_of, function_of, class_of}
use Rattle.resolver_names.specs.Nodes.{total, block_nodes}
use Rattle.resolver_laws.specs.Made.{Source, method_source, method_sources, member_source, member_sources}
use Rattle.resolver_nodes.specs.Numbered.{count_in}
use Rattle.parse_nodes.proofs.Seen.{seen, seen_more}
use Rattle.parse_nodes.proofs.Weights.{Grows, of_start, of_got, of_body, of_grown, of_members}

total_append : (xs ys : List ℕ) → total (xs ++ ys) ≡ total xs + total ys
total_append [] ys = omega arith
total_append (x ∷ xs) ys = let h = total_append xs ys in omega (arith, h)

module _ (k : ℕ) where
  abbrev source_nodes : Source → ℕ
  source_nodes s = block_nodes k s.0 s.1.body

  -- ---- functions of members

  count_append : (xs ys : List Source) → count_in k (xs ++ ys) ≡ count_in k xs + count_in k ys
  count_append xs ys = ap total (map-append source_nodes xs ys) ∙ total_append (map source_nodes xs) (map source_nodes ys)

  count_push : (xs : List Member) (x : Member)
      → count_in k (flat_map (member_sources 0) (xs ++ x ∷ [])) ≡ count_in k (flat_map (member_sources 0) xs) + count_in k (member_sources 0 x)
  count_push [] x = let h = count_append (member_sources 0 x) [] in omega (arith, h)
  count_push (y ∷ ys) x =
      let h = count_push ys x in
      let a = count_append (member_sources 0 y) (flat_map (member_sources 0) (ys ++ x ∷ [])) in
      let b = count_append (member_sources 0 y) (flat_map (member_sources 0) ys) in
      omega (arith, h, a, b)

  -- those of a class are some of those that its members have
  method_less : (x : Member-F Member ClassDef) → count_in k (method_source 0 x) ≤ count_in k (member_source 0 x)
  method_less (Member-F.Import n names) = omega arith
  method_less (Member-F.From n path names) = omega arith
  method_less (Member-F.Const n name e) = omega arith
  method_less (Member-F.Def f) = omega arith
  method_less (Member-F.Class c) = omega arith

  methods_less : (xs : List Member) → count_in k (flat_map (method_sources 0) xs) ≤ count_in k (flat_map (member_sources 0) xs)
  methods_less [] = omega arith
  methods_less (x ∷ xs) =
      let h = methods_less xs in
      let i = method_less (out-Member x) in
      let a = count_append (method_sources 0 x) (flat_map (method_sources 0) xs) in
      let b = count_append (member_sources 0 x) (flat_map (member_sources 0) xs) in
      omega (arith, h, i, a, b)

  abbrev layer_nodes : Member-F Member ClassDef → ℕ
  layer_nodes x = count_in k (member_source 0 x)

  counted : (x : Member-F Member ClassDef) {a : Member} → views.roll-Member x ≡ a → count_in k (member_sources 0 a) ≡ layer_nodes x
  counted x is = ap (λ a. layer_nodes (out-Member a)) (sym is) ∙ ap layer_nodes (out-roll-Member x)

  constant_nodes : (n : ℕ) (x : List ℕ) (e : Expr) → count_in k (member_sources 0 (m.Const n x e)) ≡ 0
  constant_nodes n x e = counted (Member-F.Const n x e) (views.rolls-Const n x e)

  import_nodes : (n : ℕ) (names : List (List ℕ)) → count_in k (member_sources 0 (m.Import n names)) ≡ 0
  import_nodes n names = counted (Member-F.Import n names) (views.rolls-Import n names)

  from_nodes : (n : ℕ) (path names : List (List ℕ)) → count_in k (member_sources 0 (m.From n path names)) ≡ 0
  from_nodes n path names = counted (Member-F.From n path names) (views.rolls-From n path names)

  def_nodes : (f : Function) → count_in k (member_sources 0 (m.Def f)) ≡ block_nodes k 0 f.body + 0
  def_nodes f = counted (Member-F.Def f) (views.rolls-Def f)

  class_nodes : (c : ClassDef) → count_in k (member_sources 0 (m.Class c)) ≡ count_in k (flat_map (method_sources 0) c.members)
  class_nodes c = counted (Member-F.Class c) (views.rolls-Class c)

  -- ---- what the rules make

  pub constant_grows : (l : ℕ) (x : List ℕ) (a : Got) → Grows (of_got k a) (of_grown k (constant_of l x a))
  constant_grows l x a = omega (arith, constant_nodes (length a.lines) x a.tree, seen_more k a.lines l)

  pub import_grows : (n : Lines) (l : ℕ) (names : List (List ℕ)) → Grows (of_start k n) (of_grown k (import_of n l names))
  import_grows n l names = omega (arith, import_nodes (length n) names, seen_more k n l)

  pub from_grows : (n : Lines) (l : ℕ) (path names : List (List ℕ)) → Grows (of_start k n) (of_grown k (from_of n l path names))
  from_grows n l path names = omega (arith, from_nodes (length n) path names, seen_more k n l)

  pub function_grows : (node : ℕ) (x : List ℕ) (ps : Params) (b : Body) → Grows (of_body k b) (of_grown k (function_of node x ps b))
  function_grows node x ps b = omega (arith, def_nodes (record { node = node; name = x; params = ps.params; star = ps.star; body = b.stmts }))

  pub class_grows : (node : ℕ) (x : List ℕ) (base : List (List ℕ)) (own : Members) → Grows (of_members k own) (of_grown k (class_of node x base own))
  class_grows node x base own =
      omega (arith, class_nodes (record { node = node; name = x; base = base; members = own.members }), methods_less own.members)

  pub member_pushed_grows : (xs : List Member) (g : Grown)
      → Grows (count_in k (flat_map (member_sources 0) xs) + count_in k (member_sources 0 g.member), seen k g.lines) (of_members k (member_pushed xs g))
  member_pushed_grows xs g = omega (arith, count_push xs g.member)
