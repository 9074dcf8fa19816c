-- The sections of a sheet: a line more of a text, and a record more of a kind.
-- Assumes nothing.
use mathlib.Core.Path.{◌≡◌, refl, sym, ap, ◌∙◌}
use mathlib.Core.List.{List, [], ◌∷◌, ◌++◌, append_assoc, append-nil}
use mathlib.Core.Bool.{true, false}
use Prim.Native.Nat.{ℕ, ◌+◌, ◌≤◌}
use native.Mathlib.Omega.{arith}
use lib.ListN.{length, length-append}
use Rattle.text.specs.declared.Text.{Text}
use Rattle.text.specs.Written.{Gained}
use Rattle.text.proofs.Written.{nothing, followed, restated}
use Rattle.words.specs.Lines.{Part, lines}
use Rattle.typed_line.specs.declared.Kind.{Kind}
use Rattle.typed_line.specs.declared.Line.{Line}
use Rattle.typed_line.specs.Line.{line_of}
use Rattle.typed_records.specs.Records.{record_bytes, record_size}
use Rattle.typed_records.proofs.Lengths.{length_record}
use Rattle.typed_sheet.specs.Typed.{is_kind, records}
use Rattle.typed_sheet.proofs.Within.{Inside, text_inside, first_inside}

hit_record : (k : Kind) (p : Part) (ps : List Part) → is_kind k (line_of p).kind ≡ true → records k (p ∷ ps) ≡ record_bytes (line_of p) ++ records k ps
unfolding records
hit_record k p ps e = rw e

miss_record : (k : Kind) (p : Part) (ps : List Part) → is_kind k (line_of p).kind ≡ false → records k (p ∷ ps) ≡ records k ps
unfolding records
miss_record k p ps e = rw e

-- The output gained the records of some lines; those of the lines `left` are left.
pub record Recorded (text : List ℕ) (k : Kind) (out₀ out : Text) (left : List Part) : Type 0 where
  pub inside : Inside (length text) left
  pub done : List ℕ
  pub gained : Gained out₀ out done
  pub whole : done ++ records k left ≡ records k (lines text)

pub started : (text : List ℕ) (k : Kind) (out₀ : Text) (left : List Part) → out₀.len ≤ length out₀.bytes.now → left ≡ lines text → Recorded text k out₀ out₀ left
started text k out₀ left h e = rw e (record { inside = text_inside text; done = []; gained = nothing out₀ h; whole = refl })

module _ (text : List ℕ) (k : Kind) (out₀ out : Text) (left : List Part) (p : Part) (ps : List Part) (l : Line) (e : left ≡ p ∷ ps) (el : l ≡ line_of p)
    (room : out₀.len + length (records k (lines text)) ≤ length out₀.bytes.now) (i : Recorded text k out₀ out left) where
  inside_left : (p.at + length p.bytes ≤ length text) × Inside (length text) ps
  inside_left = first_inside (length text) p ps (rw e at i.inside)

  all_left : (m : is_kind k l.kind ≡ true) → records k left ≡ record_bytes l ++ records k ps
  all_left m = ap (records k) e ∙ hit_record k p ps (rw el at m) ∙ rw (← el)

  -- a record more has room
  pub has_room : is_kind k l.kind ≡ true → out.len + record_size l.kind ≤ length out.bytes.now
  has_room m =
      let b : length (i.done ++ (record_bytes l ++ records k ps)) ≡ length (records k (lines text)) =
      ap length (ap (λ (r : List ℕ). i.done ++ r) (sym (all_left m)) ∙ i.whole) in
      let c : length (i.done ++ (record_bytes l ++ records k ps)) ≡ length i.done + (length (record_bytes l) + length (records k ps)) = simp length-append in
      omega (arith, i.gained.same_length, i.gained.ends, length_record l)

  pub hit : (out' : Text) → is_kind k l.kind ≡ true → Gained out out' (record_bytes l) → Recorded text k out₀ out' ps
  hit out' m w =
      record {
        inside = inside_left.1;
        done = i.done ++ record_bytes l;
        gained = followed i.gained w;
        whole = append_assoc i.done (record_bytes l) (records k ps) ∙ ap (λ (x : List ℕ). i.done ++ x) (sym (all_left m)) ∙ i.whole;
      }

  pub miss : is_kind k l.kind ≡ false → Recorded text k out₀ out ps
  miss m =
      let a : records k left ≡ records k ps = ap (records k) e ∙ miss_record k p ps (rw el at m) in
      record {
        inside = inside_left.1;
        done = i.done;
        gained = i.gained;
        whole = ap (λ (x : List ℕ). i.done ++ x) (sym a) ∙ i.whole;
      }

pub finished : (text : List ℕ) (k : Kind) (out₀ out : Text) (left : List Part) → left ≡ [] → Recorded text k out₀ out left → Gained out₀ out (records k (lines text))
unfolding records
finished text k out₀ out left e i =
    let z : records k left ≡ [] = rw e in
    restated i.gained (sym (append-nil i.done) ∙ ap (λ (x : List ℕ). i.done ++ x) (sym z) ∙ i.whole)
