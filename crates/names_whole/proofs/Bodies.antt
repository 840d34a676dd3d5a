-- The bodies of classes follow their statements: what stands inside a class stands behind it, up to what stands outside.
use Rattle.std.proofs.Common.{◌≡◌, ℕ, ◌+◌, ◌-◌, ◌<◌, ◌≤◌, List, [], ◌∷◌, ◌++◌, append_assoc, Bool, true, false, Some, None, sym, ap, ◌∙◌, refl, arith, subst, cond, ◌⊎◌, inl, inr}
use Rattle.std.specs.Prelude.{◌^◌, nat_eq, nat_lt, ◌&&◌, ◌||◌}
use Rattle.std.proofs.lemmas.Grind.{common_steps}
use Rattle.rpy_tree.specs.declared.syntax.Member.{Member, out-Member}
use Rattle.rpy_tree.specs.declared.syntax.Member.TheOpen.{Member-F}
use Rattle.rpy_tree.specs.declared.syntax.ClassDef.{ClassDef, out-ClassDef}
use Rattle.rpy_nodes.specs.declared.listing.Named.{Named}
use Rattle.names_bound.specs.Declare.{class_here}
use Rattle.names_rules.specs.Bindings.{Counts, count}
use Rattle.names_rules.specs.Members as member
use Rattle.names_rules.specs.Members.{What, Placed, members, modules_from, members_of, inside_of, body_in, member_nodes, inside_nodes, module_nodes, what}
use Rattle.names_whole.specs.Classes.{is_class, is_in}

abbrev pub is_statement : What → Bool
is_statement (member.Class name base) = true
is_statement other = false

-- what stands inside follows what is inside or a class
abbrev pub Follows : Bool → List Placed → Type 0
Follows entered [] = Unit {0}
Follows entered (p ∷ ps) = (p.inside ≡ true → entered ≡ true) × Follows (p.inside || is_statement p.what) ps

inside_follows : (file place : ℕ) (ms : List Member) (n : ℕ) (rest : List Placed) → ((entered : Bool) → Follows entered rest) → Follows true (inside_of file place n ms ++ rest)
inside_follows file place [] n rest h = h true
inside_follows file place (m ∷ ms) n rest h = (λ e. refl, inside_follows file place ms (n + member_nodes (out-Member m)) rest h)

body_follows : (m : Member-F Member ClassDef) (file place n k : ℕ) (rest : List Placed) → ((entered : Bool) → Follows entered rest) → Follows (is_statement (what k m)) (inside_of file place n (body_in m) ++ rest)
body_follows (Member-F.Class c) file place n k rest h = inside_follows file place (out-ClassDef c).members n rest h
body_follows (Member-F.Import i of) file place n k rest h = h false
body_follows (Member-F.From i path of) file place n k rest h = h false
body_follows (Member-F.Const i name e) file place n k rest h = h false
body_follows (Member-F.Def f) file place n k rest h = h false

outside_follows : (file : ℕ) (ms : List Member) (place n : ℕ) (rest : List Placed) → ((entered : Bool) → Follows entered rest) → (entered : Bool) → Follows entered (members_of file place n ms ++ rest)
outside_follows file [] place n rest h entered = h entered
outside_follows file (m ∷ ms) place n rest h entered =
    let more : List Placed = members_of file (place + 1) (n + (member_nodes (out-Member m) + inside_nodes (body_in (out-Member m)))) ms in
    let body : List Placed = inside_of file place (n + member_nodes (out-Member m)) (body_in (out-Member m)) in (
      λ e. absurd cc,
      subst (λ (ps : List Placed). Follows (is_statement (what n (out-Member m))) ps) (sym (append_assoc body more rest))
          (body_follows (out-Member m) file place (n + member_nodes (out-Member m)) n (more ++ rest) (outside_follows file ms (place + 1) (n + (member_nodes (out-Member m) + inside_nodes (body_in (out-Member m)))) rest h)),
    )

modules_follow : (ms : List Named) (file n : ℕ) (entered : Bool) → Follows entered (modules_from file n ms)
modules_follow [] file n entered = tt
modules_follow (m ∷ ms) file n entered = outside_follows file m.module.members 0 n (modules_from (file + 1) (n + module_nodes m.module.members) ms) (modules_follow ms (file + 1) (n + module_nodes m.module.members)) entered

pub members_follow : (ms : List Named) → Follows false (members ms)
members_follow ms = modules_follow ms 0 0 false

-- ---- a class whose body has ended has no further member

abbrev pub Never : ℕ → Counts → List Placed → Type 0
Never class c [] = Unit {0}
Never class c (p ∷ ps) = (is_in class c p ≡ false) × Never class (count p.what c) ps

abbrev pub Runs : ℕ → Counts → List Placed → Type 0
Runs class c [] = Unit {0}
Runs class c (p ∷ ps) = (is_in class c p ≡ false → Never class (count p.what c) ps) × Runs class (count p.what c) ps

never_runs : (class : ℕ) (ps : List Placed) (c : Counts) → Never class c ps → Runs class c ps
never_runs class [] c h = tt
never_runs class (p ∷ ps) c h = (λ e. h.1, never_runs class ps (count p.what c) h.1)

outside_none : (class classes : ℕ) (b : Bool) → b ≡ false → is_class class (class_here b classes) ≡ false
outside_none class classes b e = ap (λ x. is_class class (class_here x classes)) e

another : (k n : ℕ) → k + 1 < n → nat_eq (13 + (n - 1)) (k + 13) ≡ false
another k n h = grind (arith, common_steps)

by_test : (class n : ℕ) (t : Bool) → nat_eq n class ≡ false → is_class class (cond t (Some n) None) ≡ false
by_test class n true h = h
by_test class n false h = refl

-- a later class
past : (k n : ℕ) (b : Bool) → k + 1 < n → is_class (k + 13) (class_here b n) ≡ false
past k n b h = by_test (k + 13) (13 + (n - 1)) (b && (nat_lt 0 n && nat_lt n (2 ^ 64 - 14))) (another k n h)

grows : (w : What) (c : Counts) → c.classes ≤ (count w c).classes
grows (member.Class name base) c = omega arith
grows (member.Import of) c = omega arith
grows (member.From path of) c = omega arith
grows (member.Constant name v) c = omega arith
grows (member.Def name ps star b) c = omega arith

never_past : (k : ℕ) (ps : List Placed) (c : Counts) → k + 1 < c.classes → Never (k + 13) c ps
never_past k [] c h = tt
never_past k (p ∷ ps) c h = (past k c.classes p.inside h, never_past k ps (count p.what c) (omega (arith, h, grows p.what c)))

-- after a member the count is the same, or it is a class
abbrev Next : What → Counts → Type 0
Next w c = ((is_statement w ≡ true) × (c.classes < (count w c).classes)) ⊎ ((is_statement w ≡ false) × ((count w c).classes ≡ c.classes))

next : (w : What) (c : Counts) → Next w c
next (member.Class name base) c = inl (refl, omega arith)
next (member.Import of) c = inr (refl, refl)
next (member.From path of) c = inr (refl, refl)
next (member.Constant name v) c = inr (refl, refl)
next (member.Def name ps star b) c = inr (refl, refl)

neither : (a b : Bool) → a ≡ false → b ≡ false → (a || b) ≡ false
neither a b e f = (λ j. e j || f j)

closed : (b : Bool) → (b ≡ true → false ≡ true) → b ≡ false
closed true h = sym (h refl)
closed false h = refl

never_out : (k : ℕ) (ps : List Placed) (c : Counts) → c.classes ≡ k + 1 → Follows false ps → Never (k + 13) c ps
never_out k [] c n h = tt
never_out k (p ∷ ps) c n h = (outside_none (k + 13) c.classes p.inside (closed p.inside h.0), after (λ m f. never_out k ps (count p.what c) m f) (next p.what c)) where
  after : ((count p.what c).classes ≡ k + 1 → Follows false ps → Never (k + 13) (count p.what c) ps) → Next p.what c → Never (k + 13) (count p.what c) ps
  after go (inl x) = never_past k ps (count p.what c) (omega (arith, n, x.1))
  after go (inr x) = go (x.1 ∙ n) (subst (λ (b : Bool). Follows b ps) (neither p.inside (is_statement p.what) (closed p.inside h.0) x.0) h.1)

-- a class so late that it has no number
never_none : (k : ℕ) (ps : List Placed) (c : Counts) → c.classes ≡ k + 1 → is_class (k + 13) (class_here true c.classes) ≡ false → Never (k + 13) c ps
never_none k [] c n h = tt
never_none k (p ∷ ps) c n h = (here p.inside, after (λ m f. never_none k ps (count p.what c) m f) (next p.what c)) where
  here : (b : Bool) → is_class (k + 13) (class_here b c.classes) ≡ false
  here true = h
  here false = refl

  after : ((count p.what c).classes ≡ k + 1 → is_class (k + 13) (class_here true (count p.what c).classes) ≡ false → Never (k + 13) (count p.what c) ps) → Next p.what c → Never (k + 13) (count p.what c) ps
  after go (inl x) = never_past k ps (count p.what c) (omega (arith, n, x.1))
  after go (inr x) = go (x.1 ∙ n) (ap (λ m. is_class (k + 13) (class_here true m)) x.1 ∙ h)

-- behind a class
pub runs : (k : ℕ) (ps : List Placed) (c : Counts) → c.classes ≡ k + 1 → Follows true ps → Runs (k + 13) c ps
runs k [] c n h = tt
runs k (p ∷ ps) c n h = by_place (λ m f. runs k ps (count p.what c) m f) p.inside refl where
  later : c.classes < (count p.what c).classes → Never (k + 13) (count p.what c) ps
  later lt = never_past k ps (count p.what c) (omega (arith, n, lt))

  -- outside
  out : p.inside ≡ false → Next p.what c → Never (k + 13) (count p.what c) ps
  out e (inl x) = later x.1
  out e (inr x) = never_out k ps (count p.what c) (x.1 ∙ n) (subst (λ (b : Bool). Follows b ps) (neither p.inside (is_statement p.what) e x.0) h.1)

  none : p.inside ≡ true → is_in (k + 13) c p ≡ false → Next p.what c → Never (k + 13) (count p.what c) ps
  none e f (inl x) = later x.1
  none e f (inr x) = never_none k ps (count p.what c) (x.1 ∙ n) (ap (λ m. is_class (k + 13) (class_here true m)) x.1 ∙ ap (λ b. is_class (k + 13) (class_here b c.classes)) (sym e) ∙ f)

  on : ((count p.what c).classes ≡ k + 1 → Follows true ps → Runs (k + 13) (count p.what c) ps) → p.inside ≡ true → Next p.what c → Runs (k + 13) (count p.what c) ps
  on go e (inl x) = never_runs (k + 13) ps (count p.what c) (later x.1)
  on go e (inr x) = go (x.1 ∙ n) (subst (λ (b : Bool). Follows b ps) (ap (λ b. b || is_statement p.what) e) h.1)

  by_place : ((count p.what c).classes ≡ k + 1 → Follows true ps → Runs (k + 13) (count p.what c) ps) → (b : Bool) → p.inside ≡ b → Runs (k + 13) c (p ∷ ps)
  by_place go true e = (λ f. none e f (next p.what c), on go e (next p.what c))
  by_place go false e = (λ f. out e (next p.what c), never_runs (k + 13) ps (count p.what c) (out e (next p.what c)))
