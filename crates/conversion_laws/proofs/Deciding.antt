-- The operations that compare two values.
use Rattle.std.proofs.Common.{◌≡◌, ◌<◌, ◌≤◌, ℕ, suc, ◌+◌, ◌==◌, Bool, true, false, ◌&&◌, ◌||◌, List, [], ◌∷◌, ◌++◌, length, Option, Some, None, Ok, pos, refl, sym, ap, ◌∙◌, subst, arith, append_assoc, length-append}
use Rattle.std.specs.Prelude.{not, int_le, nat_le, nat_lt, option_map}
use Rattle.std.proofs.lemmas.Bool.Decides.{nat_tests}
use Rattle.csub_tree.specs.State.{Value, Word, Flag, Core}
use Rattle.csub_tree.specs.Operation.{unary_of, binary_of}
use Rattle.csub_tree.specs.Statement.{operand}
use Rattle.csub_tree.specs.declared.tree.CUnary.TheVariants as unary
use Rattle.csub_tree.specs.declared.tree.COperand.{COperand}
use Rattle.csub_tree.specs.declared.tree.COperand.TheVariants.{Var}
use Rattle.ll_code.specs.State.{Frame, At}
use Rattle.ll_code.specs.declared.program.LlType.{LlType}
use Rattle.ll_code.specs.declared.program.LlType.TheVariants as type
use Rattle.ll_code.specs.declared.program.LlOp.{LlOp}
use Rattle.ll_code.specs.declared.program.LlOp.TheVariants as op
use Rattle.ll_code.specs.declared.program.LlExit.{LlExit}
use Rattle.ll_code.specs.declared.program.LlProgram.{LlProgram}
use Rattle.ll_leads.proofs.Ways.{on, turns}
use Rattle.ll_build.specs.declared.needs.Numbers.{Numbers}
use Rattle.rpy_tree.specs.Value.{Value as Meant, Flag as MeantFlag, Text, Heap}
use Rattle.rpy_tree.specs.declared.syntax.CmpOp.{CmpOp}
use Rattle.rpy_tree.specs.declared.syntax.CmpOp.TheVariants as compared
use Rattle.rpy_meaning.specs.declared.row.Covers.{Covers}
use Rattle.rpy_meaning.specs.declared.row.RowOp.{RowOp}
use Rattle.rpy_meaning.specs.declared.row.RowOp.TheVariants as row
use Rattle.rpy_meaning.specs.Compare.{equal, less}
use Rattle.rpy_meaning.specs.Operations.{op as meant_op}
use Rattle.rpy_meaning.specs.World.{World, flag_if_any}
use Rattle.rtyper_layout.specs.declared.kind.Kind.{Kind}
use Rattle.rtyper_layout.specs.declared.kind.Kind.TheVariants as kind
use Rattle.rtyper_layout.specs.Kinds.{kind_seen}
use Rattle.rtyper_layout.specs.Layout.{is_tuple}
use Rattle.rtyper_data.specs.declared.found.Found.{Found}
use Rattle.rtyper_data.specs.Comparing.{compare, opposite_of, opposite_if, ordered, ordered_by, of_words}
use Rattle.rtyper_data.specs.Converting.{give_made}
use Rattle.rtyper_data.specs.Seen.{Around, Operand, Place, kind_of, type_of, Writing, writing}
use Rattle.rtyper_op.specs.Lowering.{lower_op, of_some, of_two, never_comes}
use Rattle.lower_laws.specs.Asked.{Ask, all_asked}
use Rattle.lower_laws.specs.Values.{is_plain, is_simple, IsBelow, AllBelow}
use Rattle.lower_laws.proofs.Coming.{two_come}
use Rattle.lower_laws.proofs.Doing.{after}
use Rattle.lower_laws.proofs.Flags.{three_more}
use Rattle.lower_laws.proofs.Single.{sets, gives_flag}
use Rattle.lower_laws.proofs.Typing.{place_of_flags}
use Rattle.object_laws.specs.Done.{HasLayout, AllAsked, Follows, IsDone, references}
use Rattle.object_laws.specs.Ghost.{Ghost}
use Rattle.object_laws.specs.Known.{Known}
use Rattle.object_laws.specs.Represents.{Represents}
use Rattle.object_laws.specs.Values as high
use Rattle.object_laws.specs.Values.{Holds, Plain, Stands, Given}
use Rattle.object_laws.proofs.Passing.{sets_more, is_set_at, sets_last}
use Rattle.conversion_laws.specs.Asked.{Has, HasTo, equal_asks}
use Rattle.conversion_laws.specs.Compared.{Compares, Simple, Items, ValuesAreCompared, BytesAreOrdered}
use Rattle.conversion_laws.proofs.Equality.{compares_told, levels}
use Rattle.conversion_laws.proofs.Moving.{all_had}
use Rattle.conversion_laws.proofs.Telling.{Told, byte_test}
use Rattle.conversion_laws.proofs.Testing.{Test, test_of, ops_of, new_of, operand_of, found_of, left_by, after_one, after_two, equal_is, asks_are}
use Rattle.conversion_laws.proofs.Valued.{byte_held}

-- ---- a truth value that is told is given

module _ (known : Known) (around : Around) (o : RowOp) (covers : Covers) (asks : List Ask) (place : Place) (a b : Operand) (w : Writing) (flags : kind_seen place.element ≡ kind.Flag) (ops : List LlOp) (new : List LlType) (y : COperand) (found : Found)
    (is : lower_op around o place (a ∷ b ∷ []) w ≡ writing found (record { types = w.body.types ++ new; ops = (w.body.ops ++ ops) ++ op.Set place.variable y ∷ [] }))
    (asked : found ≡ all_asked asks w.found) (answer : Meant → Meant → Option Bool) (means : (u v : Meant) (world : World) → meant_op known.program covers o (u ∷ v ∷ []) world ≡ flag_if_any (answer u v) world)
    (tells : (p : LlProgram) (numbers : Numbers) (raised : ℕ → Value) (arguments : List (List ℕ)) (rest : List LlOp) (e : LlExit) (frames : List Frame) (core : Core) (g : Ghost) (heap : Heap) (left : ℕ) (u v : Meant) (c : Bool)
    → HasLayout p around.layout → AllAsked (Has p around.layout numbers raised core) asks w.found → Represents around.layout known g heap left core.blocks core.statics
    → length w.body.types + length new ≤ length core.vars → IsBelow (length w.body.types) a.x → IsBelow (length w.body.types) b.x → Holds around.layout known g a.element (operand core.vars a.x) u → Holds around.layout known g b.element (operand core.vars b.x) v
    → answer u v ≡ Some c → Told p arguments (At (ops ++ rest) e frames core) rest e frames core (length w.body.types) y c) where
  flag_holds : (g : Ghost) (c : Bool) → Holds around.layout known g place.element (Flag c) (MeantFlag c)
  flag_holds g c = Plain (ap is_plain flags) (subst (λ t. Stands g t (Flag c) (MeantFlag c)) (sym (place_of_flags around.layout place.element flags)) (high.flag c))

  decided : IsDone (λ p. Has p around.layout) 0 known around o covers asks (lower_op around o place (a ∷ b ∷ []) w) place (a ∷ b ∷ []) w
  decided = record {
    ops = ops ++ op.Set place.variable y ∷ [];
    new = new;
    asked = ap (λ (w : Writing). w.found) is ∙ asked;
    written = ap (λ (w : Writing). w.body.ops) is ∙ append_assoc w.body.ops ops (op.Set place.variable y ∷ []);
    types = ap (λ (w : Writing). w.body.types) is;
    follows = follow;
  }
    where
      follow : (p : LlProgram) (numbers : Numbers) (raised : ℕ → Value) (arguments : List (List ℕ)) (rest : List LlOp) (e : LlExit) (frames : List Frame) (core : Core) (g : Ghost) (world : World) (vs : List Meant)
          → HasLayout p around.layout → AllAsked (Has p around.layout numbers raised core) asks w.found → Represents around.layout known g world.heap world.left core.blocks core.statics → world.left ≡ core.steps
          → length w.body.types + length new ≤ length core.vars → place.variable < length w.body.types → AllBelow (length w.body.types) (a ∷ b ∷ []) → Given known around g core (a ∷ b ∷ []) vs → Unit {0}
          → Follows 0 known around place p arguments (At ((ops ++ op.Set place.variable y ∷ []) ++ rest) e frames core) rest e frames core g raised (references world.heap vs) (length w.body.types) world (meant_op known.program covers o vs world)
      follow p numbers raised arguments rest e frames core g world [] has asked r left room inside below given good = absurd given
      follow p numbers raised arguments rest e frames core g world (u ∷ []) has asked r left room inside below given good = absurd given.1
      follow p numbers raised arguments rest e frames core g world (u ∷ v ∷ z ∷ vs) has asked r left room inside below given good = absurd given.1.1
      follow p numbers raised arguments rest e frames core g world (u ∷ v ∷ []) has asked r left room inside below given good =
          subst (λ ops. Follows 0 known around place p arguments (At ops e frames core) rest e frames core g raised (references world.heap (u ∷ v ∷ [])) (length w.body.types) world (meant_op known.program covers o (u ∷ v ∷ []) world)) (sym (append_assoc ops (op.Set place.variable y ∷ []) rest))
          (subst (λ answer. Follows 0 known around place p arguments (At (ops ++ (op.Set place.variable y ∷ rest)) e frames core) rest e frames core g raised (references world.heap (u ∷ v ∷ [])) (length w.body.types) world answer) (sym (means u v world)) (by (answer u v) refl))
        where
          by : (c : Option Bool) → answer u v ≡ c → Follows 0 known around place p arguments (At (ops ++ (op.Set place.variable y ∷ rest)) e frames core) rest e frames core g raised (references world.heap (u ∷ v ∷ [])) (length w.body.types) world (flag_if_any c world)
          by None h = tt
          by (Some c) h =
              let T : Told p arguments (At (ops ++ (op.Set place.variable y ∷ rest)) e frames core) (op.Set place.variable y ∷ rest) e frames core (length w.body.types) y c =
              tells p numbers raised arguments (op.Set place.variable y ∷ rest) e frames core g world.heap world.left u v c has asked r room below.0 below.1.0 given.0 given.1.0 h in
              sets_last (references world.heap (u ∷ v ∷ [])) (length w.body.types) T.mid (Flag c) (MeantFlag c) r left T.passed (omega (arith, inside, room)) (on T.way (sets (Flag c) T.is refl)) (flag_holds g c)

-- ---- equality

simple_comes : (k : Kind) → is_simple k ≡ true → never_comes k ≡ false
simple_comes kind.Word simple = refl
simple_comes kind.Flag simple = refl
simple_comes kind.Byte simple = refl
simple_comes kind.Text simple = refl
simple_comes kind.MaybeText simple = refl
simple_comes kind.Nothing simple = refl
simple_comes _ simple = absurd (cc)

both_come : (around : Around) (a b : Operand) → Compares around.layout a.element b.element → (never_comes (kind_of a) ≡ false) × (never_comes (kind_of b) ≡ false)
both_come around a b (Simple i j) = (simple_comes (kind_of a) i, simple_comes (kind_of b) j)
both_come around a b (Items m n parts others i j all) = (ap (λ e. never_comes (kind_seen e)) i.is, ap (λ e. never_comes (kind_seen e)) j.is)

module _ (known : Known) (around : Around) (place : Place) (a b : Operand) (w : Writing) (apart : is_tuple around.layout 0 ≡ false) (one : Compares around.layout a.element b.element) (flags : kind_seen place.element ≡ kind.Flag) where
  abbrev the_test : Test
  the_test = test_of around.layout (type_of around a) (type_of around b)

  abbrev the_asks : List Ask
  the_asks = equal_asks around.layout (type_of around a) (type_of around b)

  abbrev tested : Writing
  tested = left_by the_test a.x b.x w

  abbrev answer_at : ℕ
  answer_at = length tested.body.types

  tells_equal : (p : LlProgram) (numbers : Numbers) (raised : ℕ → Value) (arguments : List (List ℕ)) (rest : List LlOp) (e : LlExit) (frames : List Frame) (core : Core) (g : Ghost) (heap : Heap) (left : ℕ) (u v : Meant) (c : Bool)
      → HasLayout p around.layout → AllAsked (Has p around.layout numbers raised core) the_asks w.found → Represents around.layout known g heap left core.blocks core.statics
      → length w.body.types + length (new_of the_test) ≤ length core.vars → IsBelow (length w.body.types) a.x → IsBelow (length w.body.types) b.x → Holds around.layout known g a.element (operand core.vars a.x) u → Holds around.layout known g b.element (operand core.vars b.x) v
      → equal u v ≡ Some c → Told p arguments (At (ops_of the_test a.x b.x w ++ rest) e frames core) rest e frames core (length w.body.types) (operand_of the_test w) c
  tells_equal p numbers raised arguments rest e frames core g heap left u v c has asked r room under_a under_b held_a held_b h =
      let k : ℕ = levels one in
      compares_told around.layout known apart one k (omega arith) refl refl a.x b.x w p numbers raised arguments rest e frames core g heap left u v c has
      (all_had (Has p around.layout numbers raised core) (HasTo p around.layout numbers raised core (suc k)) (λ a made h. h (suc k)) the_asks w.found asked) r room under_a under_b held_a held_b h

  equal_written : (covers : Covers) → lower_op around (row.Compare compared.Eq) place (a ∷ b ∷ []) w ≡ writing (found_of the_test w) (record { types = w.body.types ++ new_of the_test; ops = (w.body.ops ++ ops_of the_test a.x b.x w) ++ op.Set place.variable (operand_of the_test w) ∷ [] })
  unfolding of_some of_two compare opposite_if
  equal_written covers =
      two_come around (row.Compare compared.Eq) place a b w (both_come around a b one).0 (both_come around a b one).1
      ∙ ap (λ made. give_made around place type.Bool (opposite_of false made)) (equal_is around.layout (type_of around a) (type_of around b) a.x b.x w)
      ∙ gives_flag around place (operand_of the_test w) tested (place_of_flags around.layout place.element flags)

  unequal_written : (covers : Covers) → lower_op around (row.Compare compared.Ne) place (a ∷ b ∷ []) w ≡ writing (found_of the_test w) (record { types = w.body.types ++ (new_of the_test ++ type.Bool ∷ []); ops = (w.body.ops ++ (ops_of the_test a.x b.x w ++ op.Unary answer_at unary.Not (operand_of the_test w) ∷ [])) ++ op.Set place.variable (Var answer_at) ∷ [] })
  unfolding of_some of_two compare opposite_if
  unequal_written covers =
      two_come around (row.Compare compared.Ne) place a b w (both_come around a b one).0 (both_come around a b one).1
      ∙ ap (λ made. give_made around place type.Bool (opposite_of true made)) (equal_is around.layout (type_of around a) (type_of around b) a.x b.x w)
      ∙ gives_flag around place (Var answer_at) (writing tested.found (record { types = tested.body.types ++ type.Bool ∷ []; ops = tested.body.ops ++ op.Unary answer_at unary.Not (operand_of the_test w) ∷ [] })) (place_of_flags around.layout place.element flags)
      ∙ ap (λ ts. writing tested.found (record { types = ts; ops = (tested.body.ops ++ op.Unary answer_at unary.Not (operand_of the_test w) ∷ []) ++ op.Set place.variable (Var answer_at) ∷ [] })) (append_assoc w.body.types (new_of the_test) (type.Bool ∷ []))
      ∙ ap (λ os. writing tested.found (record { types = w.body.types ++ (new_of the_test ++ type.Bool ∷ []); ops = os ++ op.Set place.variable (Var answer_at) ∷ [] })) (append_assoc w.body.ops (ops_of the_test a.x b.x w) (op.Unary answer_at unary.Not (operand_of the_test w) ∷ []))

  tells_unequal : (p : LlProgram) (numbers : Numbers) (raised : ℕ → Value) (arguments : List (List ℕ)) (rest : List LlOp) (e : LlExit) (frames : List Frame) (core : Core) (g : Ghost) (heap : Heap) (left : ℕ) (u v : Meant) (c : Bool)
      → HasLayout p around.layout → AllAsked (Has p around.layout numbers raised core) the_asks w.found → Represents around.layout known g heap left core.blocks core.statics
      → length w.body.types + length (new_of the_test ++ type.Bool ∷ []) ≤ length core.vars → IsBelow (length w.body.types) a.x → IsBelow (length w.body.types) b.x → Holds around.layout known g a.element (operand core.vars a.x) u → Holds around.layout known g b.element (operand core.vars b.x) v
      → option_map not (equal u v) ≡ Some c → Told p arguments (At ((ops_of the_test a.x b.x w ++ op.Unary answer_at unary.Not (operand_of the_test w) ∷ []) ++ rest) e frames core) rest e frames core (length w.body.types) (Var answer_at) c
  tells_unequal p numbers raised arguments rest e frames core g heap left u v c has asked r room under_a under_b held_a held_b h =
      subst (λ ops. Told p arguments (At ops e frames core) rest e frames core (length w.body.types) (Var answer_at) c) (sym (append_assoc (ops_of the_test a.x b.x w) (op.Unary answer_at unary.Not (operand_of the_test w) ∷ []) rest)) (by (equal u v) refl h)
    where
      by : (d : Option Bool) → equal u v ≡ d → option_map not d ≡ Some c → Told p arguments (At (ops_of the_test a.x b.x w ++ (op.Unary answer_at unary.Not (operand_of the_test w) ∷ rest)) e frames core) rest e frames core (length w.body.types) (Var answer_at) c
      by None k h = absurd (cc)
      by (Some d) k h =
          let q : not d ≡ c = cc in
          let long : length (new_of the_test ++ type.Bool ∷ []) ≡ length (new_of the_test) + 1 = length-append (new_of the_test) (type.Bool ∷ []) in
          let at : answer_at ≡ length w.body.types + length (new_of the_test) = length-append w.body.types (new_of the_test) in
          let T : Told p arguments (At (ops_of the_test a.x b.x w ++ (op.Unary answer_at unary.Not (operand_of the_test w) ∷ rest)) e frames core) (op.Unary answer_at unary.Not (operand_of the_test w) ∷ rest) e frames core (length w.body.types) (operand_of the_test w) d =
          tells_equal p numbers raised arguments (op.Unary answer_at unary.Not (operand_of the_test w) ∷ rest) e frames core g heap left u v d has asked r (omega (arith, room, long)) under_a under_b held_a held_b k in
          let same : length T.mid.vars ≡ length core.vars = T.passed.room in
          record {
            mid = after T.mid answer_at (Flag c);
            way = on T.way (turns (Flag c) (ap (unary_of unary.Not) T.is ∙ ap (λ c. Ok (Flag c)) q));
            passed = sets_more answer_at (Flag c) (omega (arith, at)) T.passed;
            is = is_set_at T.mid answer_at (Flag c) (omega (arith, room, long, at, same));
          }

pub equal_is_done : ValuesAreCompared compared.Eq
equal_is_done known around place a b w covers apart one flags =
    decided known around (row.Compare compared.Eq) covers (the_asks known around place a b w apart one flags) place a b w flags (ops_of (the_test known around place a b w apart one flags) a.x b.x w) (new_of (the_test known around place a b w apart one flags)) (operand_of (the_test known around place a b w apart one flags) w) (found_of (the_test known around place a b w apart one flags) w)
    (equal_written known around place a b w apart one flags covers) (asks_are around.layout (type_of around a) (type_of around b) w) equal (λ u v world. refl) (tells_equal known around place a b w apart one flags)

pub unequal_is_done : ValuesAreCompared compared.Ne
unequal_is_done known around place a b w covers apart one flags =
    let test : Test = the_test known around place a b w apart one flags in
    let at : ℕ = length (w.body.types ++ new_of test) in
    decided known around (row.Compare compared.Ne) covers (the_asks known around place a b w apart one flags) place a b w flags (ops_of test a.x b.x w ++ op.Unary at unary.Not (operand_of test w) ∷ []) (new_of test ++ type.Bool ∷ []) (Var at) (found_of test w)
    (unequal_written known around place a b w apart one flags covers) (asks_are around.layout (type_of around a) (type_of around b) w) (λ u v. option_map not (equal u v)) (λ u v world. refl) (tells_unequal known around place a b w apart one flags)

-- ---- the order of bytes

or_false : (a b : Bool) → (a || (b && false)) ≡ a
or_false true b = refl
or_false false true = refl
or_false false false = refl

-- the first is at most the second where the second is not less
at_most : (i j : ℕ) → int_le (pos i) (pos j) ≡ not (nat_lt j i)
at_most i j = one (nat_lt j i) refl
  where
    one : (c : Bool) → nat_lt j i ≡ c → nat_le i j ≡ not c
    one true e = grind (arith, nat_tests, e)
    one false e = grind (arith, nat_tests, e)

module _ (known : Known) (around : Around) (o : CmpOp) (place : Place) (a b : Operand) (w : Writing) (covers : Covers) (ha : kind_of a ≡ kind.Byte) (hb : kind_of b ≡ kind.Byte) (flags : kind_seen place.element ≡ kind.Flag) where
  abbrev byte_ops : List LlOp
  byte_ops = op.Unary (length w.body.types) unary.C2S a.x ∷ op.Unary (after_one type.Signed w) unary.C2S b.x ∷ op.Binary (after_two w) (of_words o) (Var (length w.body.types)) (Var (after_one type.Signed w)) ∷ []

  abbrev byte_types : List LlType
  byte_types = type.Signed ∷ type.Signed ∷ type.Bool ∷ []

  ordered_written : compare around o a b w ≡ ordered around o a b w → lower_op around (row.Compare o) place (a ∷ b ∷ []) w ≡ writing w.found (record { types = w.body.types ++ byte_types; ops = (w.body.ops ++ byte_ops) ++ op.Set place.variable (Var (after_two w)) ∷ [] })
  unfolding of_some of_two ordered
  ordered_written is =
      let last : LlOp = op.Binary (after_two w) (of_words o) (Var (length w.body.types)) (Var (after_one type.Signed w)) in
      let types : List LlType = ((w.body.types ++ type.Signed ∷ []) ++ type.Signed ∷ []) ++ type.Bool ∷ [] in
      let ops : List LlOp = ((w.body.ops ++ op.Unary (length w.body.types) unary.C2S a.x ∷ []) ++ op.Unary (after_one type.Signed w) unary.C2S b.x ∷ []) ++ last ∷ [] in
      two_come around (row.Compare o) place a b w (ap never_comes ha) (ap never_comes hb)
      ∙ ap (λ made. give_made around place type.Bool made) (is ∙ ap (λ k. ordered_by k (kind_of b) around o a b w) ha ∙ ap (λ k. ordered_by kind.Byte k around o a b w) hb)
      ∙ gives_flag around place (Var (after_two w)) (writing w.found (record { types = types; ops = ops })) (place_of_flags around.layout place.element flags)
      ∙ ap (λ ts. writing w.found (record { types = ts; ops = ops ++ op.Set place.variable (Var (after_two w)) ∷ [] })) (three_more w.body.types type.Signed type.Signed type.Bool)
      ∙ ap (λ os. writing w.found (record { types = w.body.types ++ byte_types; ops = os ++ op.Set place.variable (Var (after_two w)) ∷ [] })) (three_more w.body.ops (op.Unary (length w.body.types) unary.C2S a.x) (op.Unary (after_one type.Signed w) unary.C2S b.x) last)

  bytes_decided : compare around o a b w ≡ ordered around o a b w → (answer : Meant → Meant → Option Bool) → ((u v : Meant) (world : World) → meant_op known.program covers (row.Compare o) (u ∷ v ∷ []) world ≡ flag_if_any (answer u v) world)
      → ((i j : ℕ) (c : Bool) → answer (Text (i ∷ [])) (Text (j ∷ [])) ≡ Some c → binary_of (of_words o) (Word (pos i)) (Word (pos j)) ≡ Ok (Flag c))
      → IsDone (λ p. Has p around.layout) 0 known around (row.Compare o) covers [] (lower_op around (row.Compare o) place (a ∷ b ∷ []) w) place (a ∷ b ∷ []) w
  bytes_decided is answer means numbers_are =
      decided known around (row.Compare o) covers [] place a b w flags byte_ops byte_types (Var (after_two w)) w.found (ordered_written is) refl answer means
      (λ p numbers raised arguments rest e frames core g heap left u v c has asked r room under_a under_b held_a held_b h. (
      let x = byte_held ha held_a in
      let y = byte_held hb held_b in
      let so : answer (Text (x.number ∷ [])) (Text (y.number ∷ [])) ≡ Some c = ap (λ u. answer u (Text (y.number ∷ []))) (sym x.high) ∙ ap (answer u) (sym y.high) ∙ h in
      byte_test 0 a.x b.x w p numbers raised arguments rest e frames core g heap left r under_a under_b (of_words o) x.number y.number c x.low y.low (numbers_are x.number y.number c so) room
      ))

some_so : (b c : Bool) → Some b ≡ Some c → b ≡ c
some_so b c h = (let q : b ≡ c = cc in q)

pub less_is_done : BytesAreOrdered compared.Lt
unfolding compare
less_is_done known around place a b w covers ha hb flags = bytes_decided known around compared.Lt place a b w covers ha hb flags refl less (λ u v world. refl)
    (λ i j c h. ap (λ c. Ok (Flag c)) (sym (or_false (nat_lt i j) (i == j)) ∙ some_so (nat_lt i j || ((i == j) && false)) c h))

pub greater_is_done : BytesAreOrdered compared.Gt
unfolding compare
greater_is_done known around place a b w covers ha hb flags = bytes_decided known around compared.Gt place a b w covers ha hb flags refl (λ u v. less v u) (λ u v world. refl)
    (λ i j c h. ap (λ c. Ok (Flag c)) (sym (or_false (nat_lt j i) (j == i)) ∙ some_so (nat_lt j i || ((j == i) && false)) c h))

pub at_most_is_done : BytesAreOrdered compared.Le
unfolding compare
at_most_is_done known around place a b w covers ha hb flags = bytes_decided known around compared.Le place a b w covers ha hb flags refl (λ u v. option_map not (less v u)) (λ u v world. refl)
    (λ i j c h. ap (λ c. Ok (Flag c)) (at_most i j ∙ ap not (sym (or_false (nat_lt j i) (j == i))) ∙ some_so (not (nat_lt j i || ((j == i) && false))) c h))

pub at_least_is_done : BytesAreOrdered compared.Ge
unfolding compare
at_least_is_done known around place a b w covers ha hb flags = bytes_decided known around compared.Ge place a b w covers ha hb flags refl (λ u v. option_map not (less u v)) (λ u v world. refl)
    (λ i j c h. ap (λ c. Ok (Flag c)) (at_most j i ∙ ap not (sym (or_false (nat_lt i j) (i == j))) ∙ some_so (not (nat_lt i j || ((i == j) && false))) c h))
