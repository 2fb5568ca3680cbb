-- The lines of a partial that came so far, and the next one.
use Rattle.std.proofs.Common.{◌≡◌, ℕ, ◌+◌, ◌⊎◌, inl, inr, Option, None, List, [], ◌∷◌, ◌++◌, refl, sym, ap, subst, ◌∙◌, append_assoc, append-nil}
use Rattle.std.specs.Prelude.{IsTrue}
use Rattle.std.specs.List.{AllByRecursion}
use Rattle.std.proofs.lemmas.List.Concat.{flat_map-append}
use Rattle.flu_lemmas.specs.Items.{Pairs}
use Rattle.flu_model.specs.declared.jobs.Program.{Program}
use Rattle.flu_contribution.specs.declared.contributing.Handed.{Handed}
use Rattle.flu_partial.specs.declared.order.Reached.{Reached}
use Rattle.flu_partial.specs.declared.order.Reached.TheVariants.{Head, End as AtEnd}
use Rattle.flu_partial.specs.declared.values.Contribution.{Contribution}
use Rattle.flu_partial.specs.declared.values.PartialHead.{PartialHead}
use Rattle.flu_partial.specs.Forms.{IsHeadLine, IsContributionLine}
use Rattle.flu_partial.specs.Laws.{LawOfHeads, LawOfContributions}
use Rattle.flu_partial.specs.Order.{may_come, reached_with, AreRest}
use Rattle.flu_partial.specs.Partial.{head_text, contribution_text, line_of}
use Rattle.flu_receiving.specs.declared.fault.PartialFault.{PartialFault}
use Rattle.flu_receiving.specs.declared.fault.PartialFault.TheVariants.{Incomplete, NoMemory}
use Rattle.flu_receiving.specs.declared.receiving.Received.{Received}
use Rattle.flu_receiving.specs.declared.receiving.Sent.{Sent}
use Rattle.flu_receiving.specs.declared.receiving.Taken.{Taken}
use Rattle.flu_receiving.specs.Faults.{parts_of, IsFaultFrom, IsFaultIn, IsFirstFault, IsLineFault, IsUnread}
use Rattle.flu_receiving.specs.Parts.{AreBetween, AreSent, IsTaken}
use Rattle.flu_receiving.specs.Receiving.{lines_text, last_of, last_time, HasLine, IsRead, IsReceived, IsSendableLine, IsSentBy, IsWholePartial}
use Rattle.flu_receiving.proofs.Faulty.{fault_join, head_join, not_whole}
use Rattle.flu_receiving.proofs.Wholes.{one_text}

-- ---- one element more
all_push : {X : Type 0} (P : X → Type 0) (xs : List X) (x : X) → AllByRecursion P xs → P x → AllByRecursion P (xs ++ x ∷ [])
all_push P [] x all h = (h, tt)
all_push P (y ∷ xs) x all h = (all.0, all_push P xs x all.1 h)

pairs_push : {X W : Type 0} (R : X → W → Type 0) (xs : List X) (ws : List W) (x : X) (w : W) → Pairs R xs ws → R x w → Pairs R (xs ++ x ∷ []) (ws ++ w ∷ [])
pairs_push R [] [] x w pairs h = (h, tt)
pairs_push R [] (v ∷ ws) x w pairs h = absurd pairs
pairs_push R (y ∷ xs) [] x w pairs h = absurd pairs
pairs_push R (y ∷ xs) (v ∷ ws) x w pairs h = (pairs.0, pairs_push R xs ws x w pairs.1 h)

between_push : (r s : Reached) (cs : List Contribution) (c : Contribution) → AreBetween r cs s → IsTrue (may_come s c)
    → AreBetween r (cs ++ c ∷ []) (reached_with c.place)
between_push r s [] c between h = (subst (λ (x : Reached). IsTrue (may_come x c)) (sym between) h, refl)
between_push r s (b ∷ cs) c between h = (between.0, between_push (reached_with b.place) s cs c between.1 h)

last_push : (cs : List Contribution) (c : Contribution) → last_of (cs ++ c ∷ []) ≡ last_time c.place
last_push [] c = refl
last_push (b ∷ []) c = refl
last_push (b ∷ d ∷ cs) c = last_push (d ∷ cs) c

rest_of_between : (r : Reached) (cs : List Contribution) → AreBetween r cs AtEnd → AreRest r cs
rest_of_between r [] between = between
rest_of_between r (c ∷ cs) between = (between.0, rest_of_between (reached_with c.place) cs between.1)

-- ---- what came so far
pub record HaveCome (p : Program) (bytes rest : List ℕ) (r : Reached) (handed : List Handed) (time : Option ℕ) : Type 0 where
  pub cs : List Contribution
  pub text : bytes ≡ lines_text cs ++ rest
  pub lines : AllByRecursion HasLine cs
  pub order : AreBetween Head cs r
  pub sent : Pairs (IsSentBy p) cs handed
  pub last : time ≡ last_of cs

pub none_came : (p : Program) (bytes : List ℕ) → HaveCome p bytes bytes Head [] None
none_came p bytes = record { cs = []; text = refl; lines = tt; order = refl; sent = tt; last = refl }

pub has_line : (c : Contribution) (line : List ℕ) → IsContributionLine c line → HasLine c
has_line c line is = subst (λ (l : List ℕ). IsContributionLine c l) is.text is

pub next_came : (p : Program) (bytes rest line behind : List ℕ) (r s : Reached) (handed : List Handed) (time : Option ℕ) (t : Taken)
    → HaveCome p bytes rest r handed time → rest ≡ line_of line ++ behind → IsTaken p r s line t
    → HaveCome p bytes behind s (handed ++ t.handed ∷ []) t.last
next_came p bytes rest line behind r s handed time t h cut (c, next, reached, sent, last) =
    let text = contribution_text c in
    let one : line_of line ++ behind ≡ lines_text (c ∷ []) ++ behind =
    ap (λ (l : List ℕ). line_of l ++ behind) next.is_line.text ∙ ap (λ (l : List ℕ). l ++ behind) (sym (append-nil (line_of text))) in
    record {
      cs = h.cs ++ c ∷ [];
      text = h.text
          ∙ ap (λ (l : List ℕ). lines_text h.cs ++ l) (cut ∙ one)
          ∙ sym (append_assoc (lines_text h.cs) (lines_text (c ∷ [])) behind)
          ∙ ap (λ (l : List ℕ). l ++ behind) (sym (flat_map-append (λ (x : Contribution). line_of (contribution_text x)) h.cs (c ∷ [])));
      lines = all_push HasLine h.cs c h.lines (has_line c line next.is_line);
      order = subst (λ (x : Reached). AreBetween Head (h.cs ++ c ∷ []) x) (sym reached) (between_push Head r h.cs c h.order next.timely);
      sent = pairs_push (IsSentBy p) h.cs handed c t.handed h.sent sent;
      last = last ∙ sym (last_push h.cs c);
    }

pub all_came : (p : Program) (bytes rest : List ℕ) (r : Reached) (s : Sent) → HaveCome p bytes rest r s.sent.items s.last → rest ≡ [] → r ≡ AtEnd
    → AreSent p bytes s
all_came p bytes rest r s h none reached = (
  h.cs,
  h.text ∙ ap (λ (l : List ℕ). lines_text h.cs ++ l) none ∙ append-nil (lines_text h.cs),
  h.lines,
  subst (λ (x : Reached). AreBetween Head h.cs x) reached h.order,
  h.sent,
  h.last,
)

-- ---- faults of the rest are faults of the whole
abbrev pub AreFaults : Program → List ℕ → ℕ → Reached → List ℕ → Type 0
AreFaults p bytes number r rest = (e : PartialFault) → IsFaultFrom p number r (parts_of rest) e → IsFaultFrom p 2 Head (parts_of bytes) e

pub fault_here : (p : Program) (bytes rest line behind : List ℕ) (number : ℕ) (r : Reached) (e : PartialFault) → AreFaults p bytes number r rest
    → parts_of rest ≡ line ∷ parts_of behind → IsLineFault p number r line e → IsFaultFrom p 2 Head (parts_of bytes) e
fault_here p bytes rest line behind number r e faults cut f =
    faults e (subst (λ (parts : List (List ℕ)). IsFaultFrom p number r parts e) (sym cut) (fault_join p number r line behind e (inl f)))

pub faults_behind : (p : Program) (bytes rest line behind : List ℕ) (number : ℕ) (r s : Reached) (t : Taken) → AreFaults p bytes number r rest
    → parts_of rest ≡ line ∷ parts_of behind → IsTaken p r s line t → AreFaults p bytes (number + 1) s behind
faults_behind p bytes rest line behind number r s t faults cut (c, next, reached, sent, last) = λ e f.
    let g = subst (λ (x : Reached). IsFaultFrom p (number + 1) x (parts_of behind) e) reached f in
    faults e (subst (λ (parts : List (List ℕ)). IsFaultFrom p number r parts e) (sym cut) (fault_join p number r line behind e (inr (c, next, g))))

pub fault_behind : (p : Program) (bytes rest : List ℕ) (number : ℕ) (r : Reached) → AreFaults p bytes number r rest → parts_of rest ≡ rest ∷ []
    → (((rest ≡ []) × (r ≡ AtEnd)) → ⊥) → IsFaultFrom p 2 Head (parts_of bytes) Incomplete
fault_behind p bytes rest number r faults none open_end =
    faults Incomplete (subst (λ (parts : List (List ℕ)). IsFaultFrom p number r parts Incomplete) (sym none) (open_end, refl))

-- ---- the whole
pub whole_of_sent : (p : Program) (bytes line behind : List ℕ) (s : Sent) (r : Received) → bytes ≡ line_of line ++ behind → IsHeadLine r.head line
    → AreSent p behind s → r.sent.items ≡ s.sent.items → r.last ≡ s.last → IsRead p bytes r
whole_of_sent p bytes line behind s r cut head (cs, text, lines, order, sent, last) same time = (
  cs,
  record {
    text = cut ∙ ap (λ (l : List ℕ). line_of l ++ behind) head.text ∙ ap (λ (l : List ℕ). line_of (head_text r.head) ++ l) text;
    head = subst (λ (l : List ℕ). IsHeadLine r.head l) head.text head;
    lines = lines;
    order = rest_of_between Head cs order;
  },
  record { head = refl; sent = subst (λ (hs : List Handed). Pairs (IsSentBy p) cs hs) (sym same) sent; last = time ∙ last },
)

pub found_of_read : LawOfHeads → LawOfContributions → (p : Program) (bytes : List ℕ) (h : PartialHead) (cs : List Contribution) (r : Received)
    → IsRead p bytes r → IsWholePartial h cs bytes → IsReceived p h cs r
found_of_read heads law p bytes h cs r (bs, whole, received) other =
    let same = one_text heads law bytes r.head h bs cs whole other in
    record {
      head = same.0;
      sent = subst (λ (xs : List Contribution). Pairs (IsSentBy p) xs r.sent.items) same.1 received.sent;
      last = received.last ∙ ap last_of same.1;
    }

-- ---- answers that are errors
abbrev pub IsMemoryOr : PartialFault → Type 0 → Type 0
IsMemoryOr e P = (e ≡ NoMemory) ⊎ P

pub memory_or : (e : PartialFault) (P Q : Type 0) → (P → Q) → IsMemoryOr e P → IsMemoryOr e Q
memory_or e P Q f (inl h) = inl h
memory_or e P Q f (inr h) = inr (f h)

pub fault_of_head : (p : Program) (bytes line behind : List ℕ) (e : PartialFault) → parts_of bytes ≡ line ∷ parts_of behind → IsUnread IsHeadLine 1 line e
    → IsFirstFault p bytes e
fault_of_head p bytes line behind e cut f =
    subst (λ (parts : List (List ℕ)). IsFaultIn p parts e) (sym cut) (head_join p line behind e (inl f))

pub fault_behind_head : (p : Program) (bytes line behind : List ℕ) (h : PartialHead) (e : PartialFault) → parts_of bytes ≡ line ∷ parts_of behind
    → IsHeadLine h line → IsFaultFrom p 2 Head (parts_of behind) e → IsFirstFault p bytes e
fault_behind_head p bytes line behind h e cut is f =
    subst (λ (parts : List (List ℕ)). IsFaultIn p parts e) (sym cut) (head_join p line behind e (inr (h, is, f)))

pub no_head : (p : Program) (bytes : List ℕ) → parts_of bytes ≡ bytes ∷ [] → IsFirstFault p bytes Incomplete
no_head p bytes none = subst (λ (parts : List (List ℕ)). IsFaultIn p parts Incomplete) (sym none) refl

pub only_memory : LawOfContributions → (p : Program) (bytes : List ℕ) (e : PartialFault) (h : PartialHead) (cs : List Contribution)
    → IsMemoryOr e (IsFirstFault p bytes e) → IsWholePartial h cs bytes → AllByRecursion (IsSendableLine p) cs → e ≡ NoMemory
only_memory law p bytes e h cs (inl memory) whole sendable = memory
only_memory law p bytes e h cs (inr fault) whole sendable = absurd (not_whole law p bytes e h cs fault whole sendable)
