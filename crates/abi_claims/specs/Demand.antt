-- Demand 3 of the exported functions, of one configuration's words, the memory that micro_price_new is lent, and one list of calls.
use Rattle.std.specs.Prelude.{ℕ, ◌≡◌, List, Float, ℤ, length}
use Rattle.quotes.specs.declared.TopOfBook.{TopOfBook}
use Rattle.model_signals.specs.Signal.{signal_of}
use Rattle.config.specs.Configuration.{config_of}
use Rattle.history.specs.Demand.{left}
use Rattle.fit.specs.Fit.{fitted_with}
use Rattle.history_claims.specs.Models.{Model, Demand3Whole}
use Rattle.abi_counting.specs.Counting.{new_words}
use Rattle.abi_fit.specs.FitWindow.{LentFit, of_fit, fit_with_words}
use Rattle.abi_models.specs.Models.{signal_length, of_signalled, signal_words}
use Rattle.abi_claims.specs.WordCalls.{WordMemory, lent_memory, WordCall, WordsRan, history_calls, run_words, history_in_words}

-- a list of calls on what micro_price_new leaves of the memory that it is lent
abbrev pub ran_from_new : List ℕ → List ℕ → List ℕ → List ℕ → List ℤ → List WordCall → WordsRan
ran_from_new c w s m t ks = run_words c (lent_memory (new_words c w s m t)) ks

-- micro_price_fit_counts_with on memory that a caller holds; at the default rounds it is micro_price_fit_counts (`fit_words`)
abbrev pub fit_in_words : ℕ → ℕ → List ℕ → WordMemory → List ℕ → List Float → LentFit
fit_in_words rounds moves c h model scratch = fit_with_words rounds moves c h.rec h.stay h.moved h.totals model scratch

pub record Demand3Words (c w s m : List ℕ) (t : List ℤ) (ks : List WordCall) : Type 0 where
  -- every number, output and restored configuration word, and after the list the record's words and the tables, are the history's
  pub history : ran_from_new c w s m t ks ≡ history_in_words c ks
  -- the calls that are made have demand 3 whole
  pub whole : Demand3Whole (config_of c) (history_calls ks)
  -- a fit after the list, with any two numbers of rounds, is that of what they leave, and one that answers 0 leaves a model
  pub fit_is : (rounds moves : ℕ) (model : List ℕ) (scratch : List Float)
      → fit_in_words rounds moves c (ran_from_new c w s m t ks).left model scratch
      ≡ of_fit (fitted_with rounds moves (config_of c) (left (config_of c) (history_calls ks)) model scratch)
  pub model : (rounds moves : ℕ) (model : List ℕ) (scratch : List Float)
      → (fit_in_words rounds moves c (ran_from_new c w s m t ks).left model scratch).answer ≡ 0
      → Model (config_of c) (fit_in_words rounds moves c (ran_from_new c w s m t ks).left model scratch).model
  -- the signal of any model table and quote, with words for it
  pub signal-is : (model : List ℕ) (q : TopOfBook) (out : List ℕ) (row : ℕ) → length out ≡ signal_length
      → signal_words c model q out row ≡ of_signalled (signal_of (config_of c) model q) out row
