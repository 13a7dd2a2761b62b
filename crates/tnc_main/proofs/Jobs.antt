-- The words of a job ask for one command, and its code is that of one status.
use Rattle.tnc_main.proofs.Common.{◌≡◌, ℕ, List, Option, sym, subst, ◌∙◌, Command, Asks, one_command, Status, Reads}
use Rattle.tnc_main.proofs.Common.{Job, code_of}
use Rattle.tnc_main.proofs.Statuses.{one_status}

module _ (words : List (List ℕ)) (left : Option (List ℕ)) (code : ℕ) (command : Command) (status : Status)
    (asks : Asks words command) (ends : code ≡ code_of status) (job : Job words left code) where
  pub same_command : job.command ≡ command
  same_command = one_command words job.command command job.asked asks

  -- what the command reads
  pub reads : Reads command left job.octets
  reads = subst (λ c. Reads c left job.octets) same_command job.reads

  -- what holds of the command and the status holds of the job's
  pub for_job : (P : Command → Status → Type 0) → P command status → P job.command job.status
  for_job P h =
      subst (λ s. P job.command s) (sym (one_status job.status status (sym job.ends ∙ ends)))
      (subst (λ c. P c status) (sym same_command) h)
