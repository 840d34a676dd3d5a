-- What links pass on is read of variables that are set.
use Rattle.std.proofs.Common.{◌≡◌, ℕ, zero, suc, ◌+◌, ◌==◌, ◌||◌, ◌&&◌, Bool, true, false, List, [], ◌∷◌, ◌++◌, length, map, Option, Some, None, refl, sym, ap, ◌∙◌, subst, arith, append_assoc}
use Rattle.std.specs.Prelude.{slice_get, not, if◌then◌else◌}
use Rattle.std.proofs.lemmas.Bool.Decides.{nat_tests}
use Rattle.std.proofs.lemmas.List.{append-nil}
use Rattle.csub_tree.specs.declared.tree.COperand.{COperand}
use Rattle.csub_tree.specs.declared.tree.COperand.TheVariants.{Var}
use Rattle.ll_code.specs.declared.program.LlType.{LlType}
use Rattle.ll_code.specs.declared.program.LlType.TheVariants as type
use Rattle.ll_code.specs.declared.program.LlOp.{LlOp}
use Rattle.ll_code.specs.declared.program.LlOp.TheVariants as op
use Rattle.ll_live.specs.Live.{among, variables_of, variables_in, reads, set_by}
use Rattle.ll_live.proofs.Appended.{among_append}
use Rattle.rtyper_layout.specs.declared.layout.Layout.{Layout}
use Rattle.rtyper_layout.specs.Layout.{is_tuple}
use Rattle.rtyper_data.specs.Converting.{default_operand, converted, helped, by_small, value_as}
use Rattle.rtyper_data.specs.Finding.{same_type}
use Rattle.rtyper_data.specs.Seen.{Writing}
use Rattle.rtyper_program.specs.declared.links.Caught.{Caught}
use Rattle.rtyper_program.specs.Links.{arguments, passed, read_as, with_passed}
use Rattle.rtyper_program.specs.Live.{live, live_from, with_new, with_one}
use Rattle.rtyper_program.specs.Live as written
use Rattle.rtyper_program.specs.Seen.{Lowered, type_at}
use Rattle.block_laws.proofs.Passing.{no_void}
use Rattle.throw_laws.specs.Pieces.{AllIn}
use Rattle.throw_laws.specs.Ready.{with_set, through, ReadIn}

-- ---- lists

pub left_in : (v : ℕ) (xs ys : List ℕ) → among v xs ≡ true → among v (xs ++ ys) ≡ true
left_in v xs ys h = among_append v xs ys ∙ ap (λ b. b || among v ys) h

pub right_in : (v : ℕ) (xs ys : List ℕ) → among v ys ≡ true → among v (xs ++ ys) ≡ true
right_in v xs ys h = among_append v xs ys ∙ on (among v xs) (among v ys) h
  where
    on : (b c : Bool) → c ≡ true → (b || c) ≡ true
    on true c k = refl
    on false c k = k

pub both_in : (xs ys zs : List ℕ) → AllIn xs zs → AllIn ys zs → AllIn (xs ++ ys) zs
both_in xs ys zs h k v m = on (among v xs) (among v ys) refl refl (sym (among_append v xs ys) ∙ m)
  where
    on : (b c : Bool) → among v xs ≡ b → among v ys ≡ c → (b || c) ≡ true → among v zs ≡ true
    on true c e f q = h v e
    on false true e f q = k v f
    on false false e f q = absurd (cc)

pub none_in : (zs : List ℕ) → AllIn [] zs
none_in zs v h = absurd (cc)

pub one_in : (a : ℕ) (zs : List ℕ) → among a zs ≡ true → AllIn (a ∷ []) zs
one_in a zs h v m = by (a == v) refl m
  where
    by : (b : Bool) → (a == v) ≡ b → (b || false) ≡ true → among v zs ≡ true
    by true e k = let q : a ≡ v = grind (arith, nat_tests, e) in subst (λ (n : ℕ). among n zs ≡ true) q h
    by false e k = absurd (cc)

pub here_in : (a : ℕ) (zs : List ℕ) → among a (a ∷ zs) ≡ true
here_in a zs = ap (λ b. b || among a zs) (let q : (a == a) ≡ true = grind (arith, nat_tests) in q)

-- ---- what is set

set_more : (o : Option ℕ) (set : List ℕ) → AllIn set (with_set o set)
set_more None set v h = h
set_more (Some a) set v h = left_in v set (a ∷ []) h

set_both : (o : Option ℕ) (s t : List ℕ) → AllIn s t → AllIn (with_set o s) (with_set o t)
set_both None s t h = h
set_both (Some a) s t h = both_in s (a ∷ []) (t ++ a ∷ []) (λ v k. left_in v t (a ∷ []) (h v k)) (λ v k. right_in v t (a ∷ []) k)

pub through_more : (ops : List LlOp) (set : List ℕ) → AllIn set (through ops set)
through_more [] set v h = h
through_more (o ∷ ops) set v h = through_more ops (with_set (set_by o) set) v (set_more (set_by o) set v h)

pub through_append : (xs ys : List LlOp) (set : List ℕ) → through (xs ++ ys) set ≡ through ys (through xs set)
through_append [] ys set = refl
through_append (o ∷ xs) ys set = through_append xs ys (with_set (set_by o) set)

pub read_append : (xs ys : List LlOp) (set : List ℕ) → ReadIn xs set → ReadIn ys (through xs set) → ReadIn (xs ++ ys) set
read_append [] ys set h k = k
read_append (o ∷ xs) ys set h k = (h.0, read_append xs ys (with_set (set_by o) set) h.1 k)

-- ---- what is live

one_new : (v : ℕ) (set into s : List ℕ) → among v (s ++ set) ≡ true → AllIn into s → AllIn (with_one v set into) s
one_new v set into s h k = by (among v set) (among v into) refl
  where
    there : among v set ≡ false → among v s ≡ true
    there e = on (among v s) refl
      where
        on : (b : Bool) → among v s ≡ b → among v s ≡ true
        on true f = f
        on false f = absurd (let q : false ≡ true = sym (among_append v s set ∙ ap (λ b. b || among v set) f ∙ e) ∙ h in cc)

    by : (b c : Bool) → among v set ≡ b → AllIn (if not b && not c then into ++ v ∷ [] else into) s
    by true c e = k
    by false true e = k
    by false false e = both_in into (v ∷ []) s k (one_in v s (there e))

pub new_in : (vs set into s : List ℕ) → AllIn vs (s ++ set) → AllIn into s → AllIn (with_new vs set into) s
new_in [] set into s h k = k
new_in (v ∷ vs) set into s h k = new_in vs set (with_one v set into) s (λ u m. h u (right_in u (v ∷ []) vs m)) (one_new v set into s (h v (here_in v vs)) k)

live_steps : (ops : List LlOp) (further : List COperand) (set met s : List ℕ) → ReadIn ops (s ++ set) → AllIn (variables_in further) (through ops (s ++ set)) → AllIn met s → AllIn (live_from ops further set met) s
live_steps [] further set met s h k m = new_in (variables_in further) set met s k m
live_steps (o ∷ ops) further set met s h k m = on (λ t r f. live_steps ops further t (with_new (reads o) set met) s r f (new_in (reads o) set met s h.0 m)) (set_by o) h.1 k
  where
    on : ((t : List ℕ) → ReadIn ops (s ++ t) → AllIn (variables_in further) (through ops (s ++ t)) → AllIn (live_from ops further t (with_new (reads o) set met)) s) → (a : Option ℕ) → ReadIn ops (with_set a (s ++ set)) → AllIn (variables_in further) (through ops (with_set a (s ++ set)))
        → AllIn (live_from ops further (written.with_set a set) (with_new (reads o) set met)) s
    on go None r f = go set r f
    on go (Some a) r f = go (set ++ a ∷ []) (subst (ReadIn ops) (append_assoc s set (a ∷ [])) r) (subst (λ (t : List ℕ). AllIn (variables_in further) (through ops t)) (append_assoc s set (a ∷ [])) f)

-- where operations read only these, so does what is passed by their block
pub live_in : (ops : List LlOp) (by further : List COperand) (s : List ℕ) → ReadIn ops s → AllIn (variables_in further) (through ops s) → AllIn (variables_in by) s → AllIn (live ops by further) s
unfolding live
live_in ops by further s h k m = live_steps ops further [] (with_new (variables_in by) [] []) s (subst (ReadIn ops) (sym (append-nil s)) h)
    (subst (λ (t : List ℕ). AllIn (variables_in further) (through ops t)) (sym (append-nil s)) k) (new_in (variables_in by) [] [] s (subst (AllIn (variables_in by)) (sym (append-nil s)) m) (none_in s))

pub own_variables : (vs : List ℕ) → variables_in (map Var vs) ≡ vs
own_variables [] = refl
own_variables (v ∷ vs) = ap (λ us. v ∷ us) (own_variables vs)

-- ---- conversions

-- what is written for a value reads it, where it is read at all
record Value (x : COperand) (w : Writing) (result : COperand × Writing) : Type 0 where
  ops : List LlOp
  written : result.1.body.ops ≡ w.body.ops ++ ops
  fine : (s : List ℕ) → AllIn (variables_of x) s → ReadIn ops s × AllIn (variables_of result.0) (through ops s)

as_it_is : (x : COperand) (w : Writing) → Value x w (x, w)
as_it_is x w = record { ops = []; written = sym (append-nil w.body.ops); fine = λ s h. (tt, h) }

-- a constant reads nothing
record Empty (w : Writing) (result : COperand × Writing) : Type 0 where
  same : result.1.body.ops ≡ w.body.ops
  none : variables_of result.0 ≡ []

default_empty : (t : LlType) (w : Writing) → Empty w (default_operand t, w)
default_empty t w = record { same = refl; none = refl }

call_reads : (x : COperand) (w : Writing) (m n : ℕ) (result : COperand × Writing) → result.0 ≡ Var m → result.1.body.ops ≡ w.body.ops ++ op.Call (Some m) n (x ∷ []) ∷ [] → Value x w result
call_reads x w m n result e h = record {
  ops = op.Call (Some m) n (x ∷ []) ∷ [];
  written = h;
  fine = λ s k. ((subst (λ vs. AllIn vs s) (sym (append-nil (variables_of x))) k, tt), subst (λ (y : COperand). AllIn (variables_of y) (s ++ m ∷ [])) (sym e) (one_in m (s ++ m ∷ []) (right_in m s (m ∷ []) (here_in m []))));
}

-- one of both
data Reads (x : COperand) (from : LlType) (w : Writing) (result : COperand × Writing) : Type 0 where
  Nothing_read : Empty w result → Reads x from w result
  Read_so : (from ≡ type.Void → ⊥) → Value x w result → Reads x from w result

if_read : (b : Bool) (x : COperand) (from to : LlType) (w : Writing) (made : COperand × Writing) → (from ≡ type.Void → ⊥) → Value x w made → Reads x from w (if b then made else (default_operand to, w))
if_read true x from to w made there it = Read_so there it
if_read false x from to w made there it = Nothing_read (default_empty to w)

converted_reads : (layout : Layout) (x : COperand) (from to : LlType) (w : Writing) → Reads x from w (converted layout x from to w)
unfolding helped by_small
converted_reads layout x type.Char (type.Ptr n) w = if_read (n == 0) x type.Char (type.Ptr n) w _ (λ h. absurd (cc)) (call_reads x w (length w.body.types) _ _ refl refl)
converted_reads layout x (type.Ptr m) (type.Ptr n) w = if_read (is_tuple layout m && is_tuple layout n) x (type.Ptr m) (type.Ptr n) w _ (λ h. absurd (cc)) (call_reads x w (length w.body.types) _ _ refl refl)
converted_reads layout x type.Char type.Signed w = Nothing_read (default_empty type.Signed w)
converted_reads layout x type.Char type.Void w = Nothing_read (default_empty type.Void w)
converted_reads layout x type.Char type.Char w = Nothing_read (default_empty type.Char w)
converted_reads layout x type.Char type.Bool w = Nothing_read (default_empty type.Bool w)
converted_reads layout x type.Char type.Fn w = Nothing_read (default_empty type.Fn w)
converted_reads layout x (type.Ptr m) type.Signed w = Nothing_read (default_empty type.Signed w)
converted_reads layout x (type.Ptr m) type.Void w = Nothing_read (default_empty type.Void w)
converted_reads layout x (type.Ptr m) type.Char w = Nothing_read (default_empty type.Char w)
converted_reads layout x (type.Ptr m) type.Bool w = Nothing_read (default_empty type.Bool w)
converted_reads layout x (type.Ptr m) type.Fn w = Nothing_read (default_empty type.Fn w)
converted_reads layout x type.Signed to w = Nothing_read (default_empty to w)
converted_reads layout x type.Void to w = Nothing_read (default_empty to w)
converted_reads layout x type.Bool to w = Nothing_read (default_empty to w)
converted_reads layout x type.Fn to w = Nothing_read (default_empty to w)

value_reads : (layout : Layout) (x : COperand) (from to : LlType) (w : Writing) → (to ≡ type.Void → ⊥) → Reads x from w (value_as layout x from to w)
unfolding value_as
value_reads layout x from to w there = on (same_type from to) refl
  where
    on : (b : Bool) → same_type from to ≡ b → Reads x from w (if b then (x, w) else converted layout x from to w)
    on true h = Read_so (λ k. there (is_void_too to (sym (ap (λ t. same_type t to) k) ∙ h))) (as_it_is x w)
      where
        is_void_too : (t : LlType) → same_type type.Void t ≡ true → t ≡ type.Void
        is_void_too type.Void e = refl
        is_void_too type.Signed e = absurd (cc)
        is_void_too type.Char e = absurd (cc)
        is_void_too type.Bool e = absurd (cc)
        is_void_too type.Fn e = absurd (cc)
        is_void_too (type.Ptr n) e = absurd (cc)
    on false h = converted_reads layout x from to w

-- ---- what links pass on

module _ (l : Lowered) (caught : Option Caught) (args : List ℕ) where
  -- what is passed on is among these, where it has a type
  abbrev pub AreAmong : List ℕ → Type 0
  AreAmong s = (a : ℕ) → among a args ≡ true → ((read_as l caught a).1 ≡ type.Void → ⊥) → AllIn (variables_of (read_as l caught a).0) s

  pub record Passes (xs : List COperand) (w : Writing) (result : List COperand × Writing) : Type 0 where
    pub ops : List LlOp
    pub ys : List COperand
    pub written : result.1.body.ops ≡ w.body.ops ++ ops
    pub given : result.0 ≡ xs ++ ys
    pub fine : (s : List ℕ) → AreAmong s → ReadIn ops s × AllIn (variables_in ys) (through ops s)

  nothing_passes : (xs : List COperand) (w : Writing) → Passes xs w (xs, w)
  nothing_passes xs w = record { ops = []; ys = []; written = sym (append-nil w.body.ops); given = sym (append-nil xs); fine = λ s h. (tt, none_in s) }

  -- an operand
  record Operand (w : Writing) (result : COperand × Writing) : Type 0 where
    ops : List LlOp
    written : result.1.body.ops ≡ w.body.ops ++ ops
    fine : (s : List ℕ) → AreAmong s → ReadIn ops s × AllIn (variables_of result.0) (through ops s)

  operand_of : (a : ℕ) (w : Writing) (result : COperand × Writing) → among a args ≡ true → Reads (read_as l caught a).0 (read_as l caught a).1 w result → Operand w result
  operand_of a w result inside (Nothing_read it) = record { ops = []; written = it.same ∙ sym (append-nil w.body.ops); fine = λ s h. (tt, subst (λ vs. AllIn vs s) (sym it.none) (none_in s)) }
  operand_of a w result inside (Read_so there it) = record { ops = it.ops; written = it.written; fine = λ s h. it.fine s (h a inside there) }

  at_in : (xs : List ℕ) (n a : ℕ) → slice_get xs n ≡ Some a → among a xs ≡ true
  at_in [] n a h = absurd (cc)
  at_in (x ∷ xs) zero a h = let q : x ≡ a = cc in subst (λ (b : ℕ). among a (b ∷ xs) ≡ true) (sym q) (here_in a xs)
  at_in (x ∷ xs) (suc n) a h = right_in a (x ∷ []) xs (at_in xs n a h)

  one_operand : (o : Option ℕ) (n : ℕ) (to : LlType) (w : Writing) → slice_get args n ≡ o → (to ≡ type.Void → ⊥) → Operand w (passed l caught o to w)
  one_operand None n to w h there = record { ops = []; written = sym (append-nil w.body.ops); fine = λ s k. (tt, none_in s) }
  one_operand (Some a) n to w h there = operand_of a w _ (at_in args n a h) (value_reads l.world.around.layout (read_as l caught a).0 (read_as l caught a).1 to w there)

  after : (xs : List COperand) (w : Writing) (one : COperand × Writing) (result : List COperand × Writing) → Operand w one → Passes (xs ++ one.0 ∷ []) one.1 result → Passes xs w result
  after xs w one result it more = record {
    ops = it.ops ++ more.ops;
    ys = one.0 ∷ more.ys;
    written = more.written ∙ ap (λ (ops : List LlOp). ops ++ more.ops) it.written ∙ append_assoc w.body.ops it.ops more.ops;
    given = more.given ∙ append_assoc xs (one.0 ∷ []) more.ys;
    fine = λ s h.
        let a = it.fine s h in
        let b = more.fine (through it.ops s) (λ u m k v n. through_more it.ops s v (h u m k v n)) in (
          read_append it.ops more.ops s a.0 b.0,
          subst (AllIn (variables_of one.0 ++ variables_in more.ys)) (sym (through_append it.ops more.ops s)) (both_in (variables_of one.0) (variables_in more.ys) (through more.ops (through it.ops s)) (λ v m. through_more more.ops (through it.ops s) v (a.1 v m)) b.1),
        );
  }

  pub passes_in : (n : ℕ) (inputs : List ℕ) (xs : List COperand) (w : Writing) → Passes xs w (arguments l caught args n inputs (xs, w))
  passes_in n [] xs w = nothing_passes xs w
  passes_in n (v ∷ inputs) xs w = on (λ ys u. passes_in (n + 1) inputs ys u) (same_type (type_at l v) type.Void) refl
    where
      on : ((ys : List COperand) (u : Writing) → Passes ys u (arguments l caught args (n + 1) inputs (ys, u))) → (b : Bool) → same_type (type_at l v) type.Void ≡ b
          → Passes xs w (arguments l caught args (n + 1) inputs (if b then (xs, w) else with_passed xs (passed l caught (slice_get args n) (type_at l v) w)))
      on go true h = go xs w
      on go false h = after xs w (passed l caught (slice_get args n) (type_at l v) w) _ (one_operand (slice_get args n) n (type_at l v) w refl (no_void (type_at l v) h)) (go (xs ++ (passed l caught (slice_get args n) (type_at l v) w).0 ∷ []) (passed l caught (slice_get args n) (type_at l v) w).1)
