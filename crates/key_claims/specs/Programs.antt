-- "Write the doors' question and the keys' question as two that ask each other, and a plain repeated product proved
-- equal." What a function does is taken from its own contract, by name: `Reads.Learnt` of a function is what a caller
-- learns when it returns, `Reads.Asked` what it has to show, and `Statement.statement` says that the code returns, does
-- nothing undefined and ends as its contract says.
use Rattle.std.specs.Prelude.{ℕ, ◌≤◌, ◌≡◌, List, Result}
use contract.Lifetimes.{Lfts}
use Rattle.std.specs.Borrow.{Bor, MutBor}
use borrow.Fn.Picked.{KnownAs}
use Rattle.limits.specs.Limits.{max_allowance}
use Rattle.answers.specs.Answers.{Answer}
use Rattle.answers.specs.declared.Refusal.{Refusal}
use Rattle.answers.specs.Results.{answer}
use Rattle.words.specs.Lent.{Address, lent, lent_mut}
use Rattle.matrix.specs.Layout.{rows}
use Rattle.key_marks.proofs.doors_open.Reads as doors_open_reads
use Rattle.key_marks.proofs.rounds.Reads as rounds_reads
use Rattle.key_calls.proofs.open_doors.Reads as open_doors_reads
use Rattle.key_calls.proofs.open_doors.Statement as open_doors_statement
use Rattle.key_calls.proofs.open_doors.Kinds as open_doors_kinds
use Rattle.key_calls.proofs.ask_doors.Reads as ask_doors_reads
use Rattle.key_calls.proofs.ask_doors.Statement as ask_doors_statement
use Rattle.key_calls.proofs.ask_doors.Kinds as ask_doors_kinds

-- where the five buffers of a call are
pub record Places : Type 0 where
  pub locks : Address
  pub cabinets : Address
  pub hand : Address
  pub out : Address
  pub work : Address

-- What the contracts tell a caller of one call with allowance n: locks a, cabinets b and hand c are lent and stay, the
-- answer's buffer has d before and d' after it, and the workspace e and e'.

-- of the repeated product
abbrev pub ByRounds : Lfts 5 → Places → ℕ → List ℕ → List ℕ → List ℕ → List ℕ → List ℕ → Result ℕ Refusal → List ℕ
    → List ℕ → Type 0
ByRounds κs p n a b c d e result d' e' =
    open_doors_reads.Learnt κs
    (n, (lent p.locks a, (lent p.cabinets b, (lent p.hand c, (lent_mut p.out d, (lent_mut p.work e, tt))))))
    result
    (n, (lent p.locks a, (lent p.cabinets b, (lent p.hand c, (lent_mut p.out d', (lent_mut p.work e', tt))))))

-- of the two questions
abbrev pub ByQuestions : Lfts 5 → Places → ℕ → List ℕ → List ℕ → List ℕ → List ℕ → List ℕ → Result ℕ Refusal → List ℕ
    → List ℕ → Type 0
ByQuestions κs p n a b c d e result d' e' =
    ask_doors_reads.Learnt κs
    (n, (lent p.locks a, (lent p.cabinets b, (lent p.hand c, (lent_mut p.out d, (lent_mut p.work e, tt))))))
    result
    (n, (lent p.locks a, (lent p.cabinets b, (lent p.hand c, (lent_mut p.out d', (lent_mut p.work e', tt))))))

-- two calls that end alike: the answer, and every word of the two buffers that a call writes
pub record Alike (a a' : Answer) (out out' work work' : List ℕ) : Type 0 where
  pub answers : a ≡ a'
  pub outs : out ≡ out'
  pub works : work ≡ work'

-- both programs, called with the same numbers and words, whatever they are, in buffers that may be elsewhere
abbrev pub Equal : Type 0
Equal =
    (κs λs : Lfts 5) (p q : Places) (n : ℕ) (a b c d e d₁ e₁ d₂ e₂ : List ℕ) (r₁ r₂ : Result ℕ Refusal)
    → ByRounds κs p n a b c d e r₁ d₁ e₁
    → ByQuestions λs q n a b c d e r₂ d₂ e₂
    → Alike (answer r₁) (answer r₂) d₁ d₂ e₁ e₂

-- the same of the functions below them, on marks: the doors' question and the rounds leave the same words of doors
abbrev pub EqualMarks : Type 0
EqualMarks =
    (κs λs : Lfts 4) (p q r s t u v w : Address) (n : ℕ) (a b keys doors keys₁ doors₁ keys₂ doors₂ : List ℕ)
    → doors_open_reads.Learnt κs (n, (lent p a, (lent q b, (lent_mut r keys, (lent_mut s doors, tt))))) tt
    (n, (lent p a, (lent q b, (lent_mut r keys₁, (lent_mut s doors₁, tt)))))
    → rounds_reads.Learnt λs (n, (lent t a, (lent u b, (lent_mut v keys, (lent_mut w doors, tt))))) tt
    (n, (lent t a, (lent u b, (lent_mut v keys₂, (lent_mut w doors₂, tt)))))
    → doors₁ ≡ doors₂

-- "Show that an allowance beyond the number of keys adds nothing": two allowances that are no smaller, within the limit
abbrev pub Beyond : Type 0
Beyond =
    (κs λs : Lfts 5) (p q : Places) (n m : ℕ) (a b c d e d₁ e₁ d₂ e₂ : List ℕ) (r₁ r₂ : Result ℕ Refusal)
    → rows a ≤ n → n ≤ max_allowance → rows a ≤ m → m ≤ max_allowance
    → ByRounds κs p n a b c d e r₁ d₁ e₁
    → ByRounds λs q m a b c d e r₂ d₂ e₂
    → Alike (answer r₁) (answer r₂) d₁ d₂ e₁ e₂

-- the claims, with what makes them claims of the code: each program meets its contract, what a caller learns follows
-- from that, and a caller has nothing to show
pub record Programs : Type 3 where
  pub open_met : {M : Type 1} → open_doors_statement.statement M
  pub ask_met : {M : Type 1} → ask_doors_statement.statement M
  pub open_known : KnownAs 5 open_doors_kinds.ps open_doors_kinds.r open_doors_reads.Ghost open_doors_reads.requires
      open_doors_reads.ensures open_doors_reads.Asked open_doors_reads.Learnt
  pub ask_known : KnownAs 5 ask_doors_kinds.ps ask_doors_kinds.r ask_doors_reads.Ghost ask_doors_reads.requires
      ask_doors_reads.ensures ask_doors_reads.Asked ask_doors_reads.Learnt
  pub open_free : (κs : Lfts 5) (n : ℕ) (locks cabinets hand : Bor (List ℕ)) (out work : MutBor (List ℕ))
      → open_doors_reads.Asked κs (n, (locks, (cabinets, (hand, (out, (work, tt))))))
  pub ask_free : (κs : Lfts 5) (n : ℕ) (locks cabinets hand : Bor (List ℕ)) (out work : MutBor (List ℕ))
      → ask_doors_reads.Asked κs (n, (locks, (cabinets, (hand, (out, (work, tt))))))
  pub equal : Equal
  pub equal_marks : EqualMarks
  pub beyond : Beyond
