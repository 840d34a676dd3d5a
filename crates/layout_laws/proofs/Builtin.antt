-- The row of builtin exceptions meets what the law of the beginning asks.
use Rattle.std.proofs.Common.{◌≡◌, ◌<◌, ℕ, zero, suc, true, [], ◌++◌, length, Option, Some, None, refl, sym, ap, ◌∙◌, arith}
use Rattle.std.specs.Prelude.{slice_get, replicate}
use Rattle.std.proofs.lemmas.List.{append-nil}
use Rattle.rpy_tree.specs.declared.program.ClassInfo.{ClassInfo}
use Rattle.rpy_meaning.specs.Operations.{builtin_classes}
use Rattle.class_desc.specs.Line.{base, base_in, is_below}
use Rattle.class_desc.specs.Range.{ends, IsForest}
use Rattle.rtyper_class.specs.Vtables.{vtables, exceptions}
use Rattle.layout_laws.specs.Beginning.{AreBuiltin}
use Rattle.layout_laws.specs.Layouts.{IsNumbered}
use Rattle.layout_laws.specs.Rows.{info, builtin, bare, resolved, meant, raising, raised, ExceptionsBegin}
use Rattle.layout_laws.specs.Statics.{HasStatics}
use Rattle.layout_laws.proofs.Beginning.{memory_begins}
use Rattle.layout_laws.proofs.Lines.{Here, Up, below_of}
use Rattle.layout_laws.proofs.Places.{same_some, no_some, get_replicate, get_there}

-- a class but the first is below the first
based : (c b : ℕ) → base builtin (suc c) ≡ Some b → b ≡ 0
based c b h = by (slice_get (replicate 12 (info (Some 0))) c) refl h
  where
    by : (o : Option ClassInfo) → slice_get (replicate 12 (info (Some 0))) c ≡ o → base_in o ≡ Some b → b ≡ 0
    by None e k = absurd (no_some k)
    by (Some i) e k = same_some (sym k ∙ ap (λ (x : ClassInfo). x.base) (sym (get_replicate 12 c (info (Some 0)) i e)))

base_is : (c : ℕ) → c < 12 → base builtin (suc c) ≡ Some 0
base_is c lt =
    let there = get_there (replicate 12 (info (Some 0))) c (omega (arith, lt)) in
    ap base_in there.1 ∙ ap (λ (x : ClassInfo). x.base) (sym (get_replicate 12 c (info (Some 0)) there.0 there.1))

bases : (c b : ℕ) → base builtin c ≡ Some b → b < length builtin
bases zero b h = absurd (no_some h)
bases (suc c) b h = omega (arith, based c b h)

ending : (c : ℕ) → c < length builtin → ends builtin (length builtin) (Some c) ≡ true
ending zero lt = refl
ending (suc c) lt = ap (ends builtin 12) (base_is c (omega (arith, lt)))

forest : IsForest builtin
forest = record { bases = bases; ending = ending }

below : (class : ℕ) → class < builtin_classes → is_below builtin class 0 ≡ true
below zero lt = refl
below (suc c) lt = below_of builtin forest 0 (suc c) lt (Up (suc c) 0 (base_is c (omega (arith, lt))) (Here 0 refl))

are_builtin : AreBuiltin raising
are_builtin = record { below = below; bare = λ class lt i home name e h. absurd (no_some h) }

numbered : IsNumbered raising
numbered = record { forest = forest; classes = omega arith; attributes = omega arith }

statics : HasStatics raising resolved [] raised
statics = record {
  more = [];
  structs = sym (append-nil raised.structs);
  before = [];
  rest = [];
  statics = ap (λ xs. vtables raising resolved [] ++ xs) (sym (append-nil (exceptions raising)));
  first = refl;
  next = refl;
  few = omega arith;
}

pub exceptions_begin : ExceptionsBegin
exceptions_begin =
    memory_begins resolved bare true raising [] raised meant (λ n. None) (λ n. None) (λ s. None) [] 1000 (record { layout = refl; attributes = refl }) numbered (omega arith) statics are_builtin (λ s block h. absurd (no_some h)) (omega arith)
