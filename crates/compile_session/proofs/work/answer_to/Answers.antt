use Rattle.compile_session.proofs.CountLemmas.{churn_counted, trial_counted}
use Rattle.compile_session.proofs.WorkLemmas.{churn_bounded, churn_work, files_bounded, trial_bounded, trial_work}
use Rattle.compile_session.proofs.work.answer_to.Goals as goal

pub answers_of-requires-clause-files : goal.answers_of-requires-clause-files
answers_of-requires-clause-files g c κs within = (files_bounded c.args.work.now c.in-Files.job c.in-Files.is c.requires.bounded).0

pub answers_of-requires-clause-workers : goal.answers_of-requires-clause-workers
answers_of-requires-clause-workers g c κs within = let b = files_bounded c.args.work.now c.in-Files.job c.in-Files.is c.requires.bounded in (b.1, b.2)

pub trial_answer-requires-clause-size : goal.trial_answer-requires-clause-size
trial_answer-requires-clause-size g c κs within = (trial_bounded c.args.work.now _ _ _ c.in-Trial.is c.requires.bounded).0

pub trial_answer-requires-clause-workers : goal.trial_answer-requires-clause-workers
trial_answer-requires-clause-workers g c κs within = let b = trial_bounded c.args.work.now _ _ _ c.in-Trial.is c.requires.bounded in (b.1, b.2)

pub returns-in_ok-answer-in-Trial-clause-settles : goal.returns-in_ok-answer-in-Trial-clause-settles
returns-in_ok-answer-in-Trial-clause-settles g c = trial_work c.args.work.now _ _ _ c.args.reads.now c.in_ok-answer-in-Trial.answer.answer c.in-Trial.is c.in_ok-answer-in-Trial.ensures.settles

pub returns-in_ok-answer-in-Trial-clause-counts : goal.returns-in_ok-answer-in-Trial-clause-counts
returns-in_ok-answer-in-Trial-clause-counts g c = trial_counted c.args.work.now _ _ _ c.args.reads.now c.in_ok-answer-in-Trial.answer.answer.compiled c.in-Trial.is c.in_ok-answer-in-Trial.ensures.counts

pub churn_answer-requires-clause-size : goal.churn_answer-requires-clause-size
churn_answer-requires-clause-size g c κs within = (churn_bounded c.args.work.now _ _ _ c.in-Churn.is c.requires.bounded).0

pub churn_answer-requires-clause-workers : goal.churn_answer-requires-clause-workers
churn_answer-requires-clause-workers g c κs within = let b = churn_bounded c.args.work.now _ _ _ c.in-Churn.is c.requires.bounded in (b.1, b.2)

pub returns-in_ok-answer-in-Churn-clause-settles : goal.returns-in_ok-answer-in-Churn-clause-settles
returns-in_ok-answer-in-Churn-clause-settles g c = churn_work c.args.work.now _ _ _ c.args.reads.now c.in_ok-answer-in-Churn.answer c.in-Churn.is c.in_ok-answer-in-Churn.ensures.settles

pub returns-in_ok-answer-in-Churn-clause-counts : goal.returns-in_ok-answer-in-Churn-clause-counts
returns-in_ok-answer-in-Churn-clause-counts g c = churn_counted c.args.work.now _ _ _ c.args.reads.now c.in_ok-answer-in-Churn.answer.compiled c.in-Churn.is c.in_ok-answer-in-Churn.ensures.counts
