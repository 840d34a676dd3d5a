-- A program has as many callees as the trees that are made of it have functions.
use Rattle.std.proofs.Common.{◌≡◌, ℕ, suc, ◌+◌, List, [], ◌∷◌, ◌++◌, length, length-append, flat_map, refl, sym, ap, ◌∙◌, arith}
use Rattle.std.proofs.lemmas.List.{length-map}
use Rattle.rpy_tree.specs.declared.program.FunInfo.{FunInfo}
use Rattle.rpy_tree.specs.declared.program.Program.{Program}
use Rattle.rpy_tree.specs.declared.program.Use.{Use}
use Rattle.rpy_tree.specs.declared.syntax.ClassDef.{ClassDef}
use Rattle.rpy_tree.specs.declared.syntax.Function as syntax
use Rattle.rpy_tree.specs.declared.syntax.Member.{Member, out-Member}
use Rattle.rpy_tree.specs.declared.syntax.Member.TheOpen.{Member-F}
use Rattle.rpy_tree.specs.declared.syntax.Module.{Module}
use Rattle.rpy_meaning.specs.Resolved.{Names, names_at}
use Rattle.rpy_resolved.specs.declared.tree.Resolved.{Resolved}
use Rattle.resolved_laws.specs.Meant.{further_of}
use Rattle.resolver_laws.specs.Listing.{tree_in, numbered, method_in, method_pairs, member_in, member_pairs, module_pairs}
use Rattle.resolver_laws.specs.Made.{IsMadeOf}
use Rattle.ann_needs.specs.declared.plan.Callee.{Callee}
use Rattle.ann_layout.specs.Callees.{callees, callee, with_method, with_methods, with_member, with_members, with_modules}

module _ (uses : List Use) (first : ℕ) (names : Names) where
  method_many : (x : Member-F Member ClassDef) (cs : List Callee) → length (with_method uses first x cs) ≡ length cs + length (method_in names x)
  method_many (Member-F.Def f) cs = length-append cs (callee uses first f ∷ [])
  method_many (Member-F.Import n path) cs = omega arith
  method_many (Member-F.From n path other) cs = omega arith
  method_many (Member-F.Const n name e) cs = omega arith
  method_many (Member-F.Class c) cs = omega arith

  methods_many : (ms : List Member) (cs : List Callee) → length (with_methods uses first ms cs) ≡ length cs + length (flat_map (method_pairs names) ms)
  methods_many [] cs = omega arith
  methods_many (m ∷ ms) cs =
      let one = method_many (out-Member m) cs in
      let more = methods_many ms (with_method uses first (out-Member m) cs) in
      let all : length (method_pairs names m ++ flat_map (method_pairs names) ms) ≡ length (method_pairs names m) + length (flat_map (method_pairs names) ms) = length-append (method_pairs names m) (flat_map (method_pairs names) ms) in
      omega (arith, one, more, all)

  member_many : (x : Member-F Member ClassDef) (cs : List Callee) → length (with_member uses first x cs) ≡ length cs + length (member_in names x)
  member_many (Member-F.Def f) cs = method_many (Member-F.Def f) cs
  member_many (Member-F.Import n path) cs = method_many (Member-F.Import n path) cs
  member_many (Member-F.From n path other) cs = method_many (Member-F.From n path other) cs
  member_many (Member-F.Const n name e) cs = method_many (Member-F.Const n name e) cs
  member_many (Member-F.Class c) cs = methods_many c.members cs

  members_many : (ms : List Member) (cs : List Callee) → length (with_members uses first ms cs) ≡ length cs + length (flat_map (member_pairs names) ms)
  members_many [] cs = omega arith
  members_many (m ∷ ms) cs =
      let one = member_many (out-Member m) cs in
      let more = members_many ms (with_member uses first (out-Member m) cs) in
      let all : length (member_pairs names m ++ flat_map (member_pairs names) ms) ≡ length (member_pairs names m) + length (flat_map (member_pairs names) ms) = length-append (member_pairs names m) (flat_map (member_pairs names) ms) in
      omega (arith, one, more, all)

module _ (p : Program) where
  modules_many : (first : ℕ) (ms : List Module) (cs : List Callee) → length (with_modules p.uses first ms cs) ≡ length cs + length (module_pairs p first ms)
  modules_many first [] cs = omega arith
  modules_many first (m ∷ ms) cs =
      let names = names_at p (further_of p) first in
      let one = members_many p.uses first names m.members cs in
      let more = modules_many (first + m.nodes) ms (with_members p.uses first m.members cs) in
      let all : length (flat_map (member_pairs names) m.members ++ module_pairs p (first + m.nodes) ms) ≡ length (flat_map (member_pairs names) m.members) + length (module_pairs p (first + m.nodes) ms) =
      length-append (flat_map (member_pairs names) m.members) (module_pairs p (first + m.nodes) ms) in
      omega (arith, one, more, all)

  numbered_many : (infos : List FunInfo) (n : ℕ) (xs : List (Names × syntax.Function)) → length (numbered infos n xs) ≡ length xs
  numbered_many infos n [] = refl
  numbered_many infos n (x ∷ xs) = ap suc (numbered_many infos (n + 1) xs)

  pub functions_many : (r : Resolved) → IsMadeOf p r → length r.functions ≡ length (callees p)
  functions_many r made =
      let one : length r.functions ≡ length (module_pairs p 0 p.modules) = sym (length-map r.functions (tree_in p)) ∙ ap length made.functions ∙ numbered_many p.functions 0 (module_pairs p 0 p.modules) in
      let all = modules_many 0 p.modules [] in
      omega (arith, one, all)
