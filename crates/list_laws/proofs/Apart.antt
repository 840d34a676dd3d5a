-- Two lists of different structs are the same where both are missing.
use Rattle.std.proofs.Common.{◌≡◌, ◌≢◌, ◌<◌, ◌≤◌, ℕ, ◌+◌, ◌⊎◌, inl, inr, Bool, true, false, List, [], ◌∷◌, ◌++◌, length, Some, Ok, pos, refl, sym, ap, ◌∙◌, subst, arith, append_assoc, length-append}
use Rattle.std.specs.Prelude.{slice_get, not, ◌&&◌, if◌then◌else◌}
use Rattle.csub_tree.specs.State.{Value, Flag, Word, Null, Core}
use Rattle.csub_tree.specs.Operation.{compared, unary_of, binary_of, word_of_flag}
use Rattle.csub_tree.specs.Statement.{read, operand}
use Rattle.csub_tree.specs.declared.tree.CBinary.TheVariants as binary
use Rattle.csub_tree.specs.declared.tree.CUnary.TheVariants as unary
use Rattle.csub_tree.specs.declared.tree.COperand.TheVariants.{Var}
use Rattle.rpy_tree.specs.declared.syntax.CmpOp.TheVariants as compare_op
use Rattle.rpy_tree.specs.Value.{Value as Meant, Flag as MeantFlag, Nothing, Ref}
use Rattle.rpy_meaning.specs.declared.row.Covers.{Covers}
use Rattle.rpy_meaning.specs.declared.row.RowOp.TheVariants as row
use Rattle.rpy_meaning.specs.Compare.{identical as meant_identical}
use Rattle.rpy_meaning.specs.Operations.{op as meant_op, opposite}
use Rattle.rpy_meaning.specs.World.{World, Gives, flag_if_any}
use Rattle.ll_code.specs.State.{Frame, At}
use Rattle.ll_code.specs.declared.program.LlType.{LlType}
use Rattle.ll_code.specs.declared.program.LlType.TheVariants as type
use Rattle.ll_code.specs.declared.program.LlOp.{LlOp}
use Rattle.ll_code.specs.declared.program.LlOp.TheVariants as op
use Rattle.ll_code.specs.declared.program.LlExit.{LlExit}
use Rattle.ll_code.specs.declared.program.LlProgram.{LlProgram}
use Rattle.ll_leads.specs.Path.{Leads}
use Rattle.ll_leads.proofs.Ways.{on, gives, turns}
use Rattle.rtyper_layout.specs.declared.kind.Kind.TheVariants as kind
use Rattle.rtyper_layout.specs.Kinds.{kind_seen}
use Rattle.rtyper_data.specs.Comparing.{null, zero_word, alone, binary_in, identical, same_pointer_of, both_null, compare, opposite_if, opposite_of}
use Rattle.rtyper_data.specs.Converting.{give_made}
use Rattle.rtyper_data.specs.Seen.{Around, Operand, Place, type_of, type_at, kind_of, Writing, writing}
use Rattle.rtyper_op.specs.Lowering.{of_some, of_two}
use Rattle.rtyper_list.specs.Lowering.{lowered as list_lowered, of_some as list_of_some, first_of_two, second_of_two, lower_list_op}
use Rattle.rtyper_list.specs.Operands.{of_list}
use Rattle.lower_laws.specs.Values.{IsBelow}
use Rattle.lower_laws.proofs.Coming.{two_come}
use Rattle.lower_laws.proofs.Doing.{after}
use Rattle.lower_laws.proofs.Single.{sets, gives_flag}
use Rattle.lower_laws.proofs.Typing.{place_of_flags}
use Rattle.list_laws.specs.Presence.{IsTold, ListsAreApart}
use Rattle.list_laws.proofs.Identity.{not_same, by_pointers}
use Rattle.list_laws.proofs.Lowered.{list_comes}
use Rattle.list_laws.proofs.Told.{two_plain, gives_flags}
use Rattle.object_laws.specs.Done.{Follows, references}
use Rattle.object_laws.specs.Ghost.{Ghost, Home, Sort, ListOf}
use Rattle.object_laws.specs.Known.{Known}
use Rattle.object_laws.specs.Represents.{Represents}
use Rattle.object_laws.specs.Values.{Given}
use Rattle.object_laws.proofs.Blocks.{found_there}
use Rattle.object_laws.proofs.Passing.{Passed, none_passed, sets_more, is_set_at, is_kept_at, operand_kept}
use Rattle.object_laws.proofs.Valued.{Listing, Absent, list_or_none}

one_more : {A : Type 0} (xs ys l : List A) (a : A) → l ≡ xs ++ ys → l ++ a ∷ [] ≡ xs ++ (ys ++ a ∷ [])
one_more xs ys l a h = ap (λ l. l ++ a ∷ []) h ∙ append_assoc xs ys (a ∷ [])

both_bits : (s t : Bool) → binary_of binary.And (Word (word_of_flag s)) (Word (word_of_flag t)) ≡ Ok (Word (word_of_flag (s && t)))
both_bits true true = refl
both_bits true false = refl
both_bits false true = refl
both_bits false false = refl

is_bit : (t : Bool) → binary_of binary.Ne (Word (word_of_flag t)) (Word (pos 0)) ≡ Ok (Flag t)
is_bit true = refl
is_bit false = refl

-- what the tests of two operands tell
record Tested (a b : Operand) (core : Core) (vs : List Meant) : Type 0 where
  s : Bool
  t : Bool
  low : compared (operand core.vars a.x) Null ≡ Ok (Flag s)
  low2 : compared (operand core.vars b.x) Null ≡ Ok (Flag t)
  first : Meant
  second : Meant
  values : vs ≡ first ∷ second ∷ []
  high : meant_identical first second ≡ Some (s && t)

module _ (known : Known) (around : Around) (place : Place) (a b : Operand) (w : Writing) (covers : Covers) (m n : ℕ) (apart : m ≢ n) (ha : of_list (kind_of a) ≡ true) (hb : of_list (kind_of b) ≡ true) (ta : type_of around a ≡ type.Ptr m) (tb : type_of around b ≡ type.Ptr n) (flags : kind_seen place.element ≡ kind.Flag) where
  abbrev t1 : List LlType
  t1 = w.body.types ++ type.Bool ∷ []

  abbrev t2 : List LlType
  t2 = t1 ++ type.Bool ∷ []

  abbrev t3 : List LlType
  t3 = t2 ++ type.Signed ∷ []

  abbrev t4 : List LlType
  t4 = t3 ++ type.Signed ∷ []

  abbrev t5 : List LlType
  t5 = t4 ++ type.Signed ∷ []

  abbrev t6 : List LlType
  t6 = t5 ++ type.Bool ∷ []

  abbrev k0 : ℕ
  k0 = length w.body.types

  abbrev k1 : ℕ
  k1 = length t1

  abbrev k2 : ℕ
  k2 = length t2

  abbrev k3 : ℕ
  k3 = length t3

  abbrev k4 : ℕ
  k4 = length t4

  abbrev k5 : ℕ
  k5 = length t5

  abbrev k6 : ℕ
  k6 = length t6

  abbrev o0 : LlOp
  o0 = op.Binary k0 binary.Peq a.x null

  abbrev o1 : LlOp
  o1 = op.Binary k1 binary.Peq b.x null

  abbrev o2 : LlOp
  o2 = op.Unary k2 unary.B2S (Var k0)

  abbrev o3 : LlOp
  o3 = op.Unary k3 unary.B2S (Var k1)

  abbrev o4 : LlOp
  o4 = op.Binary k4 binary.And (Var k2) (Var k3)

  abbrev o5 : LlOp
  o5 = op.Binary k5 binary.Ne (Var k4) zero_word

  abbrev o6 : LlOp
  o6 = op.Unary k6 unary.Not (Var k5)

  abbrev ops6 : List LlOp
  ops6 = (((((w.body.ops ++ o0 ∷ []) ++ o1 ∷ []) ++ o2 ∷ []) ++ o3 ∷ []) ++ o4 ∷ []) ++ o5 ∷ []

  ht : type_at around place ≡ type.Bool
  ht = place_of_flags around.layout place.element flags

  pointers : identical around a b w.body ≡ both_null a.x b.x w.body
  unfolding identical
  pointers =
      by_pointers (kind_of a) (kind_of b) ha hb around a b w.body
      ∙ ap (λ t. same_pointer_of t (type_of around b) a.x b.x w.body) ta
      ∙ ap (λ t. same_pointer_of (type.Ptr m) t a.x b.x w.body) tb
      ∙ ap (λ c. if c then binary_in binary.Peq type.Bool a.x b.x w.body else both_null a.x b.x w.body) (not_same m n apart)

  is_written : lower_list_op around (row.Compare compare_op.Is) place (a ∷ b ∷ []) w ≡ writing w.found (record { types = t6; ops = ops6 ++ op.Set place.variable (Var k5) ∷ [] })
  unfolding list_lowered list_of_some first_of_two second_of_two of_some of_two compare opposite_if
  is_written =
      two_plain around (row.Compare compare_op.Is) place a b w (list_comes a ha) (list_comes b hb) refl refl refl refl
      ∙ two_come around (row.Compare compare_op.Is) place a b w (list_comes a ha) (list_comes b hb)
      ∙ ap (λ made. give_made around place type.Bool (opposite_of false (alone w.found made))) pointers
      ∙ gives_flag around place (Var k5) (writing w.found (record { types = t6; ops = ops6 })) ht

  is_not_written : lower_list_op around (row.Compare compare_op.IsNot) place (a ∷ b ∷ []) w ≡ writing w.found (record { types = t6 ++ type.Bool ∷ []; ops = (ops6 ++ o6 ∷ []) ++ op.Set place.variable (Var k6) ∷ [] })
  unfolding list_lowered list_of_some first_of_two second_of_two of_some of_two compare opposite_if
  is_not_written =
      two_plain around (row.Compare compare_op.IsNot) place a b w (list_comes a ha) (list_comes b hb) refl refl refl refl
      ∙ two_come around (row.Compare compare_op.IsNot) place a b w (list_comes a ha) (list_comes b hb)
      ∙ ap (λ made. give_made around place type.Bool (opposite_of true (alone w.found made))) pointers
      ∙ gives_flag around place (Var k6) (writing w.found (record { types = t6 ++ type.Bool ∷ []; ops = ops6 ++ o6 ∷ [] })) ht

  k1_is : k1 ≡ k0 + 1
  k1_is = length-append w.body.types (type.Bool ∷ [])

  k2_is : k2 ≡ k0 + 2
  k2_is = length-append t1 (type.Bool ∷ []) ∙ (let q : k1 + 1 ≡ k0 + 2 = omega (arith, k1_is) in q)

  k3_is : k3 ≡ k0 + 3
  k3_is = length-append t2 (type.Signed ∷ []) ∙ (let q : k2 + 1 ≡ k0 + 3 = omega (arith, k2_is) in q)

  k4_is : k4 ≡ k0 + 4
  k4_is = length-append t3 (type.Signed ∷ []) ∙ (let q : k3 + 1 ≡ k0 + 4 = omega (arith, k3_is) in q)

  k5_is : k5 ≡ k0 + 5
  k5_is = length-append t4 (type.Signed ∷ []) ∙ (let q : k4 + 1 ≡ k0 + 5 = omega (arith, k4_is) in q)

  k6_is : k6 ≡ k0 + 6
  k6_is = length-append t5 (type.Bool ∷ []) ∙ (let q : k5 + 1 ≡ k0 + 6 = omega (arith, k5_is) in q)

  -- ---- what the tests tell

  abbrev list_in : Sort → ℕ
  list_in (ListOf n) = n
  list_in other = 0

  tested : (core : Core) (g : Ghost) (world : World) → Represents around.layout known g world.heap world.left core.blocks core.statics → (vs : List Meant) → Given known around g core (a ∷ b ∷ []) vs → Tested a b core vs
  tested core g world stands [] given = absurd given
  tested core g world stands (u ∷ []) given = absurd given.1
  tested core g world stands (u ∷ v ∷ []) given = by (list_or_none ha given.0) (list_or_none hb given.1.0)
    where
      one_home : {x y : Home} → Some x ≡ Some y → x ≡ y
      one_home h = cc

      same_struct : (p q : ℕ) → type.Ptr p ≡ type.Ptr q → p ≡ q
      same_struct p q h = cc

      others : (p : Listing around.layout known g a.element (operand core.vars a.x) u) (q : Listing around.layout known g b.element (operand core.vars b.x) v) → p.i ≡ q.i → ⊥
      others p q e =
          let same : p.n ≡ q.n = ap (λ (h : Home). list_in h.sort) (one_home (sym p.home ∙ ap (λ k. slice_get g.homes k) e ∙ q.home)) in
          apart (same_struct m p.n (sym ta ∙ p.typed) ∙ same ∙ same_struct q.n n (sym q.typed ∙ tb))

      by : Listing around.layout known g a.element (operand core.vars a.x) u ⊎ Absent a.element (operand core.vars a.x) u → Listing around.layout known g b.element (operand core.vars b.x) v ⊎ Absent b.element (operand core.vars b.x) v → Tested a b core (u ∷ v ∷ [])
      by (inl p) (inl q) = record {
        s = false;
        t = false;
        low = found_there core.blocks core.statics (operand core.vars a.x) _ (stands.lists p.n p.i (operand core.vars a.x) p.home p.struct).head_is;
        low2 = found_there core.blocks core.statics (operand core.vars b.x) _ (stands.lists q.n q.i (operand core.vars b.x) q.home q.struct).head_is;
        first = u;
        second = v;
        values = refl;
        high = ap (λ u. meant_identical u v) p.high ∙ ap (meant_identical (Ref p.i)) q.high ∙ ap Some (not_same p.i q.i (others p q));
      }
      by (inl p) (inr q) = record {
        s = false;
        t = true;
        low = found_there core.blocks core.statics (operand core.vars a.x) _ (stands.lists p.n p.i (operand core.vars a.x) p.home p.struct).head_is;
        low2 = ap (λ x. compared x Null) q.low;
        first = u;
        second = v;
        values = refl;
        high = ap (λ u. meant_identical u v) p.high ∙ ap (meant_identical (Ref p.i)) q.high;
      }
      by (inr p) (inl q) = record {
        s = true;
        t = false;
        low = ap (λ x. compared x Null) p.low;
        low2 = found_there core.blocks core.statics (operand core.vars b.x) _ (stands.lists q.n q.i (operand core.vars b.x) q.home q.struct).head_is;
        first = u;
        second = v;
        values = refl;
        high = ap (λ u. meant_identical u v) p.high ∙ ap (meant_identical Nothing) q.high;
      }
      by (inr p) (inr q) = record { s = true; t = true; low = ap (λ x. compared x Null) p.low; low2 = ap (λ x. compared x Null) q.low; first = u; second = v; values = refl; high = ap (λ u. meant_identical u v) p.high ∙ ap (meant_identical Nothing) q.high }
  tested core g world stands (u ∷ v ∷ z ∷ vs) given = absurd given.1.1

  -- ---- the tests

  -- what variables are then
  record Asked (p : LlProgram) (arguments : List (List ℕ)) (rest : List LlOp) (e : LlExit) (frames : List Frame) (core : Core) (t : Bool) : Type 0 where
    mid : Core
    way : Leads p arguments 0 (At (o0 ∷ o1 ∷ o2 ∷ o3 ∷ o4 ∷ o5 ∷ rest) e frames core) [] (At rest e frames mid)
    passed : Passed k0 core mid
    is : read mid.vars k5 ≡ Flag t

  asked : (p : LlProgram) (arguments : List (List ℕ)) (rest : List LlOp) (e : LlExit) (frames : List Frame) (core : Core) (vs : List Meant) (it : Tested a b core vs) → IsBelow k0 b.x → k0 + 6 ≤ length core.vars → Asked p arguments rest e frames core (it.s && it.t)
  asked p arguments rest e frames core vs it under room = record {
    mid = c6;
    way = on (gives (Flag it.s) it.low)
        (on (gives (Flag it.t) (ap (λ x. compared x Null) (operand_kept p1 b.x under) ∙ it.low2))
        (on (turns (Word (word_of_flag it.s)) (ap (unary_of unary.B2S) r0))
        (on (turns (Word (word_of_flag it.t)) (ap (unary_of unary.B2S) r1))
        (on (gives (Word (word_of_flag (it.s && it.t))) (ap (λ x. binary_of binary.And x (read c4.vars k3)) r2 ∙ ap (binary_of binary.And (Word (word_of_flag it.s))) r3 ∙ both_bits it.s it.t))
        (gives (Flag (it.s && it.t)) (ap (λ x. binary_of binary.Ne x (Word (pos 0))) r4 ∙ is_bit (it.s && it.t)))))));
    passed = p6;
    is = is_set_at c5 k5 (Flag (it.s && it.t)) (let q = p5.room in omega (arith, room, q, k5_is));
  }
    where
      c1 : Core
      c1 = after core k0 (Flag it.s)

      c2 : Core
      c2 = after c1 k1 (Flag it.t)

      c3 : Core
      c3 = after c2 k2 (Word (word_of_flag it.s))

      c4 : Core
      c4 = after c3 k3 (Word (word_of_flag it.t))

      c5 : Core
      c5 = after c4 k4 (Word (word_of_flag (it.s && it.t)))

      c6 : Core
      c6 = after c5 k5 (Flag (it.s && it.t))

      p1 : Passed k0 core c1
      p1 = sets_more k0 (Flag it.s) (omega arith) none_passed

      p2 : Passed k0 core c2
      p2 = sets_more k1 (Flag it.t) (omega (arith, k1_is)) p1

      p3 : Passed k0 core c3
      p3 = sets_more k2 (Word (word_of_flag it.s)) (omega (arith, k2_is)) p2

      p4 : Passed k0 core c4
      p4 = sets_more k3 (Word (word_of_flag it.t)) (omega (arith, k3_is)) p3

      p5 : Passed k0 core c5
      p5 = sets_more k4 (Word (word_of_flag (it.s && it.t))) (omega (arith, k4_is)) p4

      p6 : Passed k0 core c6
      p6 = sets_more k5 (Flag (it.s && it.t)) (omega (arith, k5_is)) p5

      r0 : read c2.vars k0 ≡ Flag it.s
      r0 = is_kept_at c1 k1 k0 (Flag it.t) (λ q. omega (arith, q, k1_is)) ∙ is_set_at core k0 (Flag it.s) (omega (arith, room))

      r1 : read c3.vars k1 ≡ Flag it.t
      r1 = is_kept_at c2 k2 k1 (Word (word_of_flag it.s)) (λ q. omega (arith, q, k1_is, k2_is)) ∙ is_set_at c1 k1 (Flag it.t) (let q = p1.room in omega (arith, room, q, k1_is))

      r2 : read c4.vars k2 ≡ Word (word_of_flag it.s)
      r2 = is_kept_at c3 k3 k2 (Word (word_of_flag it.t)) (λ q. omega (arith, q, k2_is, k3_is)) ∙ is_set_at c2 k2 (Word (word_of_flag it.s)) (let q = p2.room in omega (arith, room, q, k2_is))

      r3 : read c4.vars k3 ≡ Word (word_of_flag it.t)
      r3 = is_set_at c3 k3 (Word (word_of_flag it.t)) (let q = p3.room in omega (arith, room, q, k3_is))

      r4 : read c5.vars k4 ≡ Word (word_of_flag (it.s && it.t))
      r4 = is_set_at c4 k4 (Word (word_of_flag (it.s && it.t))) (let q = p4.room in omega (arith, room, q, k4_is))

  module _ (p : LlProgram) (raised : ℕ → Value) (arguments : List (List ℕ)) (rest : List LlOp) (e : LlExit) (frames : List Frame) (core : Core) (g : Ghost) (world : World) (most : ℕ)
      (stands : Represents around.layout known g world.heap world.left core.blocks core.statics) (left : world.left ≡ core.steps) (inside : place.variable < k0) (vs : List Meant) (given : Given known around g core (a ∷ b ∷ []) vs) (under : IsBelow k0 b.x) where
    it : Tested a b core vs
    it = tested core g world stands vs given

    is_follows : k0 + 6 ≤ length core.vars → Follows 0 known around place p arguments (At (o0 ∷ o1 ∷ o2 ∷ o3 ∷ o4 ∷ o5 ∷ op.Set place.variable (Var k5) ∷ rest) e frames core) rest e frames core g raised most k0 world (meant_op known.program covers (row.Compare compare_op.Is) vs world)
    is_follows room =
        let above : meant_op known.program covers (row.Compare compare_op.Is) vs world ≡ Gives (MeantFlag (it.s && it.t)) world = ap (λ vs. meant_op known.program covers (row.Compare compare_op.Is) vs world) it.values ∙ ap (λ o. flag_if_any o world) it.high in
        let q = asked p arguments (op.Set place.variable (Var k5) ∷ rest) e frames core vs it under room in
        subst (λ answer. Follows 0 known around place p arguments (At (o0 ∷ o1 ∷ o2 ∷ o3 ∷ o4 ∷ o5 ∷ op.Set place.variable (Var k5) ∷ rest) e frames core) rest e frames core g raised most k0 world answer) (sym above)
        (gives_flags around raised flags most k0 q.mid (it.s && it.t) stands left q.passed (omega (arith, inside, room)) (on q.way (sets (Flag (it.s && it.t)) q.is refl)))

    is_not_follows : k0 + 7 ≤ length core.vars → Follows 0 known around place p arguments (At (o0 ∷ o1 ∷ o2 ∷ o3 ∷ o4 ∷ o5 ∷ o6 ∷ op.Set place.variable (Var k6) ∷ rest) e frames core) rest e frames core g raised most k0 world (meant_op known.program covers (row.Compare compare_op.IsNot) vs world)
    is_not_follows room =
        let t : Bool = not (it.s && it.t) in
        let above : meant_op known.program covers (row.Compare compare_op.IsNot) vs world ≡ Gives (MeantFlag t) world = ap (λ vs. meant_op known.program covers (row.Compare compare_op.IsNot) vs world) it.values ∙ ap (λ o. flag_if_any (opposite o) world) it.high in
        let q = asked p arguments (o6 ∷ op.Set place.variable (Var k6) ∷ rest) e frames core vs it under (omega (arith, room)) in
        let end : Core = after q.mid k6 (Flag t) in
        subst (λ answer. Follows 0 known around place p arguments (At (o0 ∷ o1 ∷ o2 ∷ o3 ∷ o4 ∷ o5 ∷ o6 ∷ op.Set place.variable (Var k6) ∷ rest) e frames core) rest e frames core g raised most k0 world answer) (sym above)
        (gives_flags around raised flags most k0 end t stands left (sets_more k6 (Flag t) (omega (arith, k6_is)) q.passed) (omega (arith, inside, room))
        (on q.way (on (turns (Flag t) (ap (unary_of unary.Not) q.is)) (sets (Flag t) (is_set_at q.mid k6 (Flag t) (let l = q.passed.room in omega (arith, room, k6_is, l))) refl))))

  six : {A : Type 0} (xs : List A) (a b c d e f : A) → (((((xs ++ a ∷ []) ++ b ∷ []) ++ c ∷ []) ++ d ∷ []) ++ e ∷ []) ++ f ∷ [] ≡ xs ++ a ∷ b ∷ c ∷ d ∷ e ∷ f ∷ []
  six xs a b c d e f =
      one_more xs (a ∷ b ∷ c ∷ d ∷ e ∷ []) _ f (one_more xs (a ∷ b ∷ c ∷ d ∷ []) _ e (one_more xs (a ∷ b ∷ c ∷ []) _ d (one_more xs (a ∷ b ∷ []) _ c (one_more xs (a ∷ []) _ b refl))))

  is_done : IsTold known around (row.Compare compare_op.Is) covers [] place (a ∷ b ∷ []) w
  is_done = record {
    ops = o0 ∷ o1 ∷ o2 ∷ o3 ∷ o4 ∷ o5 ∷ op.Set place.variable (Var k5) ∷ [];
    new = type.Bool ∷ type.Bool ∷ type.Signed ∷ type.Signed ∷ type.Signed ∷ type.Bool ∷ [];
    asked = ap (λ (r : Writing). r.found) is_written;
    written = ap (λ (r : Writing). r.body.ops) is_written ∙ one_more w.body.ops (o0 ∷ o1 ∷ o2 ∷ o3 ∷ o4 ∷ o5 ∷ []) ops6 (op.Set place.variable (Var k5)) (six w.body.ops o0 o1 o2 o3 o4 o5);
    types = ap (λ (r : Writing). r.body.types) is_written ∙ six w.body.types type.Bool type.Bool type.Signed type.Signed type.Signed type.Bool;
    follows = λ p numbers raised arguments rest e frames core g world vs structs has stands left room inside below given good. is_follows p raised arguments rest e frames core g world (references world.heap vs) stands left inside vs given below.1.0 room;
  }

  is_not_done : IsTold known around (row.Compare compare_op.IsNot) covers [] place (a ∷ b ∷ []) w
  is_not_done = record {
    ops = o0 ∷ o1 ∷ o2 ∷ o3 ∷ o4 ∷ o5 ∷ o6 ∷ op.Set place.variable (Var k6) ∷ [];
    new = type.Bool ∷ type.Bool ∷ type.Signed ∷ type.Signed ∷ type.Signed ∷ type.Bool ∷ type.Bool ∷ [];
    asked = ap (λ (r : Writing). r.found) is_not_written;
    written = ap (λ (r : Writing). r.body.ops) is_not_written ∙ one_more w.body.ops (o0 ∷ o1 ∷ o2 ∷ o3 ∷ o4 ∷ o5 ∷ o6 ∷ []) (ops6 ++ o6 ∷ []) (op.Set place.variable (Var k6)) (one_more w.body.ops (o0 ∷ o1 ∷ o2 ∷ o3 ∷ o4 ∷ o5 ∷ []) ops6 o6 (six w.body.ops o0 o1 o2 o3 o4 o5));
    types = ap (λ (r : Writing). r.body.types) is_not_written ∙ one_more w.body.types (type.Bool ∷ type.Bool ∷ type.Signed ∷ type.Signed ∷ type.Signed ∷ type.Bool ∷ []) t6 type.Bool (six w.body.types type.Bool type.Bool type.Signed type.Signed type.Signed type.Bool);
    follows = λ p numbers raised arguments rest e frames core g world vs structs has stands left room inside below given good. is_not_follows p raised arguments rest e frames core g world (references world.heap vs) stands left inside vs given below.1.0 room;
  }

pub apart_is_done : ListsAreApart compare_op.Is
apart_is_done known around place a b w covers m n apart ha hb ta tb flags = is_done known around place a b w covers m n apart ha hb ta tb flags

pub apart_is_not_done : ListsAreApart compare_op.IsNot
apart_is_not_done known around place a b w covers m n apart ha hb ta tb flags = is_not_done known around place a b w covers m n apart ha hb ta tb flags
